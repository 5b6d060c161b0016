-- What holds of the transfers of naive code, each by itself, and of how its blocks end.
use Rattle.std.proofs.Common.{◌≡◌, ◌⊎◌, inl, inr, ℕ, zero, suc, ◌<◌, List, [], ◌∷◌, ◌++◌, map, Some, refl, sym, ap, subst, arith, true, false}
use Rattle.std.specs.Prelude.{Bool, ◌==◌, ◌||◌, Contains, if◌then◌else◌}
use Rattle.std.specs.List.{AllByRecursion}
use Rattle.std.proofs.lemmas.List.{map-append}
use Rattle.rtl_word.specs.declared.Rel.{Rel}
use Rattle.rtl_tree.specs.declared.cells.Cell.{Cell}
use Rattle.rtl_tree.specs.declared.cells.Cell.TheVariants.{Hard, Temp, Flag, Pc, Input, Output, Halt, Hole}
use Rattle.rtl_tree.specs.declared.cells.Lab.{Lab}
use Rattle.rtl_tree.specs.declared.cells.Lab.TheVariants as lab
use Rattle.rtl_tree.specs.Trees.{CodeLabel}
use Rattle.rtl_tree.specs.Moves.{Move}
use Rattle.rtl_tree.specs.Same.{same_cell}
use Rattle.rtl_effect.specs.Effects.{assigned}
use Rattle.rtl_norm_value.specs.Effect.{with_normal_jump}
use Rattle.md_rows.specs.declared.description.RawDescription.{RawDescription}
use Rattle.md_rows.specs.Fits.{is_in}
use Rattle.md_rows.specs.Instances.{general_set}
use Rattle.md_shapes.specs.declared.patterns.Pattern.{Pattern}
use Rattle.md_shapes.specs.declared.patterns.Pattern.TheVariants as shape
use Rattle.md_shapes.specs.Shapes.{Frame as Fixed, Open, shape_moves}
use Rattle.md_covers.specs.Covers.{frame_in}
use Rattle.md_check.specs.Checking.{IsChecked}
use Rattle.temp_machine.specs.Routines.{Exit, Falls, Jumps, Branches, Calls, Returns, BasicBlock}
use Rattle.temp_machine.specs.Machine.{callee_of}
use Rattle.temp_machine.specs.Flow.{label_of}
use Rattle.temp_machine.specs.Cells.{sets, reads, mentions, some_read, some_set, is_temporary, is_hard_among}
use Rattle.temp_machine.specs.Tidy.{sets_temporary, reads_temporary, room_of}
use Rattle.temp_code.specs.declared.code.Transfer.{Transfer}
use Rattle.temp_code.specs.declared.code.End.{End}
use Rattle.temp_code.specs.Routines.{exit_of}
use Rattle.temp_shapes.specs.Elementary.{IsTransferOf}
use Rattle.temp_laws.specs.Doing.{ends_block}
use Rattle.temp_laws.specs.Going.{JumpsGo, BranchesGo, FlagBranchesGo, CallsGo}
use Rattle.temp_laws.specs.Keeping.{SetsAreShapes, SetsAreKept, IsOfOperands, NamesAreShapes}
use Rattle.temp_laws.specs.Conditions.{on_temporaries, moves_stack, reads_flag, KeepsConditions, ConditionsAreKept}
use Rattle.c_tree.specs.declared.typed.Typed.{Typed}
use Rattle.naive_code.specs.Operations.{Stop, Op, Make, Meet, Scale, Extend, Close, on_two, with_number}
use Rattle.naive_run.specs.Standing.{Shaped, shaped, ways, with_label, on_two_to, log_bytes}
use Rattle.naive_builder.specs.Appending.{with_function, AllMade, IsEnd, falls, jumps, branches, branches_by_flag, calls, leaves}
use Rattle.naive_forms.specs.Operations.{IsTemporaryBelow, StopBelow, NamesBelow, IsCallee, StopGoes, Goes}
use Rattle.naive_forms.proofs.Tests.{unlike, or_neither, itself}

-- the laws of transfers of shapes
pub record AreLaws : Type 0 where
  pub conditions : ConditionsAreKept
  pub names : NamesAreShapes
  pub sets : SetsAreShapes
  pub kept : SetsAreKept
  pub jumps : JumpsGo
  pub branches : BranchesGo
  pub flag_branches : FlagBranchesGo
  pub calls : CallsGo

-- ---- what holds of them

module _ (d : RawDescription) (m : Fixed) (source : Typed) (labels : ℕ → Type 0) (most n : ℕ) where
  abbrev pub is_general : Cell → Bool
  is_general = is_hard_among (λ k. is_in (general_set d.registers) k)

  -- it names no general register and only temporaries below a number
  pub record IsKept (ms : List Move) : Type 0 where
    pub general : mentions is_general ms ≡ false
    pub names : (i : ℕ) → mentions (same_cell (Temp i)) ms ≡ true → i < n
    pub room : room_of ms ≡ 5

  -- in the body of a block
  pub record IsBody (ms : List Move) : Type 0 where
    pub kept : IsKept ms
    pub stack : sets (Hard m.stack) ms ≡ false
    pub counter : sets Pc ms ≡ false
    pub flags : (j : ℕ) → reads (Flag j) ms ≡ false

  pub record IsJump (ms : List Move) : Type 0 where
    pub kept : IsKept ms
    pub stack : sets (Hard m.stack) ms ≡ false
    pub ends : sets_temporary ms ≡ false
    pub flags : (j : ℕ) → reads (Flag j) ms ≡ false
    pub label : ℕ
    pub goes : assigned (with_normal_jump d.word ms) Pc ≡ Some (CodeLabel (lab.Block label))
    pub own : labels label

  -- a branch by a flag stands right behind the comparison
  pub record IsByFlag (body : List (List Move)) (ms : List Move) : Type 0 where
    pub flag : ℕ
    pub front : List (List Move)
    pub compare : List Move
    pub body_is : body ≡ front ++ compare ∷ []
    pub sets_flag : sets (Flag flag) compare ≡ true
    pub sets_none : sets_temporary compare ≡ false
    pub others : (j : ℕ) → (j == flag) ≡ false → reads (Flag j) ms ≡ false
    pub reads_none : reads_temporary ms ≡ false

  pub record IsBranch (body : List (List Move)) (ms : List Move) : Type 0 where
    pub kept : IsKept ms
    pub stack : sets (Hard m.stack) ms ≡ false
    pub ends : sets_temporary ms ≡ false
    pub flags : ((j : ℕ) → reads (Flag j) ms ≡ false) ⊎ IsByFlag body ms
    pub label : ℕ
    pub goes : label_of d.word ms ≡ Some label
    pub own : labels label

  pub record IsCalling (ms : List Move) : Type 0 where
    pub kept : IsKept ms
    pub flags : (j : ℕ) → reads (Flag j) ms ≡ false
    pub callee : ℕ
    pub goes : callee_of d.word ms ≡ Some callee
    pub own : IsCallee source most callee

  abbrev pub Ends : List (List Move) → Exit → Type 0
  Ends body Falls = Unit {0}
  Ends body (Jumps ms) = IsJump ms
  Ends body (Branches ms) = IsBranch body ms
  Ends body (Calls ms) = IsCalling ms
  Ends body Returns = Unit {0}

  pub record IsFormed (b : BasicBlock) : Type 0 where
    pub body : AllByRecursion IsBody b.body
    pub ends : Ends b.body b.exit

-- ---- that it does

-- a temporary below a number
below_is : (n : ℕ) (c : Cell) → IsTemporaryBelow n c → (i : ℕ) × (c ≡ Temp i) × (i < n)
below_is n (Temp i) h = (i, refl, h)
below_is n (Hard i) h = absurd h
below_is n (Flag i) h = absurd h
below_is n Pc h = absurd h
below_is n Input h = absurd h
below_is n Output h = absurd h
below_is n Halt h = absurd h
below_is n (Hole i) h = absurd h

open_is : (o : Open) (i j : ℕ) → o.a ≡ Temp i → o.b ≡ Temp j → o ≡ on_temporaries i j o.number o.symbol o.label
open_is o i j e f = λ k. record { a = e k; b = f k; number = o.number; symbol = o.symbol; label = o.label }

-- no shape in the body of a block reads a flag
reads_none_of : (p : Pattern) (j : ℕ) → ends_block p ≡ false → reads_flag j p ≡ false
reads_none_of (shape.BranchByFlag r k) j e = absurd (unlike e)
reads_none_of _ j e = refl

module _ (laws : AreLaws) (w : ℕ) (d : RawDescription) (m : Fixed) (checked : IsChecked w d) (fixed : frame_in d ≡ Some m)
    (source : Typed) (labels : ℕ → Type 0) (most n : ℕ) (some : 0 < n) where
  kept_by : (p : Pattern) (i j : ℕ) (ms : List Move) → i < n → j < n → KeepsConditions d m p i j ms → IsKept d m source labels most n ms
  kept_by p i j ms le lf h = record {
    general = h.general;
    names = λ k e. by k (h.temporaries k e);
    room = h.room;
  }
    where
      by : (k : ℕ) → (k ≡ i) ⊎ (k ≡ j) → k < n
      by k (inl e) = omega (arith, e, le)
      by k (inr e) = omega (arith, e, lf)

  conditions : (p : Pattern) (i j number symbol : ℕ) (l : Lab) (t : Transfer) → IsTransferOf d m p (on_temporaries i j number symbol l) t → KeepsConditions d m p i j t.what
  conditions p i j number symbol l t h = laws.conditions w d m p i j number symbol l t checked fixed h

  -- ---- bodies

  -- a shape on temporaries that leaves the stack where it is
  pub record IsPlain (s : Shaped) : Type 0 where
    pub a : IsTemporaryBelow n s.at.a
    pub b : IsTemporaryBelow n s.at.b
    pub stack : moves_stack s.pattern ≡ false

  body_of : (s : Shaped) (t : Transfer) → IsPlain s → ends_block s.pattern ≡ false → IsTransferOf d m s.pattern s.at t → IsBody d m source labels most n t.what
  body_of s t plain inner h =
      let x = below_is n s.at.a plain.a in let y = below_is n s.at.b plain.b in
      let c = conditions s.pattern x.0 y.0 s.at.number s.at.symbol s.at.label t (subst (λ (o : Open). IsTransferOf d m s.pattern o t) (open_is s.at x.0 y.0 x.1 y.1) h) in
      record {
        kept = kept_by s.pattern x.0 y.0 t.what x.2 y.2 c;
        stack = c.stack plain.stack;
        counter = c.counter inner;
        flags = λ j. c.flags j (reads_none_of s.pattern j inner);
      }

  abbrev pub AllPlain : List Shaped → Type 0
  AllPlain ss = AllByRecursion IsPlain ss

  abbrev pub whats : List Transfer → List (List Move)
  whats ts = map (λ t. t.what) ts

  abbrev pub AllBodies : List Transfer → Type 0
  AllBodies ts = AllByRecursion (IsBody d m source labels most n) (whats ts)

  pub bodies_of : (ss : List Shaped) (ts : List Transfer) → AllPlain ss → AllMade d m ss ts → AllBodies ts
  bodies_of [] [] plain h = tt
  bodies_of (s ∷ ss) (t ∷ ts) plain h = (body_of s t plain.0 h.0 h.1.transfer, bodies_of ss ts plain.1 h.2)
  bodies_of [] (t ∷ ts) plain h = absurd h
  bodies_of (s ∷ ss) [] plain h = absurd h

  -- ---- the ways to do an operation

  plain_two : (p : Pattern) (a b : ℕ) → moves_stack p ≡ false → a < n → b < n → IsPlain (shaped p (on_two a b))
  plain_two p a b e x y = record { a = x; b = y; stack = e }

  plain_number : (p : Pattern) (a k : ℕ) → moves_stack p ≡ false → a < n → IsPlain (shaped p (with_number a k))
  plain_number p a k e x = record { a = x; b = x; stack = e }

  doubled_plain : (b : Bool) (s : Shaped) → IsPlain s → AllPlain (s ∷ (if b then [] else s ∷ []))
  doubled_plain true s h = (h, tt)
  doubled_plain false s h = (h, (h, tt))

  of_one : (a way : List Shaped) → AllPlain a → Contains (a ∷ []) way → AllPlain way
  of_one a way p (zero, lt, e) = subst AllPlain e p
  of_one a way p (suc k, lt, e) = absurd (omega (arith, lt))

  of_two : (a b way : List Shaped) → AllPlain a → AllPlain b → Contains (a ∷ b ∷ []) way → AllPlain way
  of_two a b way p q (zero, lt, e) = subst AllPlain e p
  of_two a b way p q (suc zero, lt, e) = subst AllPlain e q
  of_two a b way p q (suc (suc k), lt, e) = absurd (omega (arith, lt))

  of_three : (a b c way : List Shaped) → AllPlain a → AllPlain b → AllPlain c → Contains (a ∷ b ∷ c ∷ []) way → AllPlain way
  of_three a b c way p q r (zero, lt, e) = subst AllPlain e p
  of_three a b c way p q r (suc zero, lt, e) = subst AllPlain e q
  of_three a b c way p q r (suc (suc zero), lt, e) = subst AllPlain e r
  of_three a b c way p q r (suc (suc (suc k)), lt, e) = absurd (omega (arith, lt))

  pub way_plain : (v : ℕ) (o : Op) (way : List Shaped) → NamesBelow n o → Goes source labels most o → Contains (ways v o) way → AllPlain way
  way_plain v (Make p o) way names goes has = of_one (shaped p o ∷ []) way (record { a = names.0; b = names.1; stack = goes }, tt) has
  way_plain v (Meet a b) way names goes has =
      of_two _ _ way (plain_two _ a b refl names.0 names.1, tt) (plain_two _ b b refl names.1 names.1, (plain_two _ a b refl names.0 names.1, tt)) has
  way_plain v (Scale a spare) way names goes has =
      of_two _ _ way (plain_number _ spare (log_bytes v) refl names.1, (plain_two _ a spare refl names.0 names.1, tt))
      (doubled_plain (v == 16) _ (plain_two _ a a refl names.0 names.0)) has
  way_plain v (Extend a spare) way names goes has =
      of_three _ _ _ way (plain_two _ a a refl names.0 names.0, tt)
      (plain_number _ spare _ refl names.1, (plain_two _ a spare refl names.0 names.1, (plain_two _ a spare refl names.0 names.1, tt)))
      (plain_two _ spare spare refl names.1 names.1, (plain_two _ spare a refl names.1 names.0, (plain_two _ a spare refl names.0 names.1, tt))) has
  way_plain v (Close stop l) way names goes (k, lt, e) = absurd (omega (arith, lt))

  -- ---- ends

  jump_of : (l : ℕ) (t : Transfer) → labels l → IsTransferOf d m shape.Jump (with_label l) t → IsJump d m source labels most n t.what
  jump_of l t own h =
      let c = conditions shape.Jump 0 0 0 0 (lab.Block l) t h in
      record {
        kept = kept_by shape.Jump 0 0 t.what some some c;
        stack = c.stack refl;
        ends = c.ends refl;
        flags = λ j. c.flags j refl;
        label = l;
        goes = laws.jumps w d m (with_label l) t checked h;
        own = own;
      }

  branch_of : (r : Rel) (a b l : ℕ) (t : Transfer) (body : List (List Move)) → a < n → b < n → labels l → IsTransferOf d m (shape.Branch r) (on_two_to a b l) t
      → IsBranch d m source labels most n body t.what
  branch_of r a b l t body x y own h =
      let c = conditions (shape.Branch r) a b 0 0 (lab.Block l) t h in
      record {
        kept = kept_by (shape.Branch r) a b t.what x y c;
        stack = c.stack refl;
        ends = c.ends refl;
        flags = inl (λ j. c.flags j refl);
        label = l;
        goes = laws.branches w d m r (on_two_to a b l) t l checked h refl;
        own = own;
      }

  no_operand : (g : ℕ) → IsOfOperands g is_temporary
  no_operand g = record {
    hard = λ k e. absurd (unlike (sym e));
    flags = λ j. refl;
    counter = refl;
    input = refl;
    output = refl;
    halt = refl;
  }

  by_flag_of : (r : Rel) (a b l j : ℕ) (compare t : Transfer) (front : List Transfer) → a < n → b < n → labels l
      → IsTransferOf d m (shape.Compare j) (on_two_to a b l) compare → IsTransferOf d m (shape.BranchByFlag r j) (on_two_to a b l) t
      → IsBranch d m source labels most n (whats (front ++ compare ∷ [])) t.what
  by_flag_of r a b l j compare t front x y own g h =
      let at = on_two_to a b l in
      let c = conditions (shape.BranchByFlag r j) a b 0 0 (lab.Block l) t h in
      let sets_it : some_set (same_cell (Flag j)) (shape_moves m (shape.Compare j) at) ≡ true = ap (λ (q : Bool). q || false) (itself j) in
      let none : mentions is_temporary t.what ≡ false =
      laws.names w d m (shape.BranchByFlag r j) at t checked h is_temporary (no_operand (general_set d.registers)) refl in
      record {
        kept = kept_by (shape.BranchByFlag r j) a b t.what x y c;
        stack = c.stack refl;
        ends = c.ends refl;
        flags = inr (record {
          flag = j;
          front = whats front;
          compare = compare.what;
          body_is = map-append (λ (u : Transfer). u.what) front (compare ∷ []);
          sets_flag = laws.kept w d m (shape.Compare j) at compare checked g (same_cell (Flag j)) sets_it;
          sets_none = laws.sets w d m (shape.Compare j) at compare checked g is_temporary (λ k. refl);
          others = λ k e. c.flags k e;
          reads_none = (or_neither (some_read is_temporary t.what) (some_set is_temporary t.what) none).0;
        });
        label = l;
        goes = laws.flag_branches w d m r j at t l checked h refl;
        own = own;
      }

  call_of : (f : ℕ) (t : Transfer) → IsCallee source most f → IsTransferOf d m shape.Call (with_function f) t → IsCalling d m source labels most n t.what
  call_of f t own h =
      let c = conditions shape.Call 0 0 0 0 (lab.Function f) t h in
      record {
        kept = kept_by shape.Call 0 0 t.what some some c;
        flags = λ j. c.flags j refl;
        callee = f;
        goes = laws.calls w d m (with_function f) t f checked h refl;
        own = own;
      }

  compare_plain : (a b l j : ℕ) → a < n → b < n → IsPlain (shaped (shape.Compare j) (on_two_to a b l))
  compare_plain a b l j x y = record { a = x; b = y; stack = refl }

  -- an end, with the last transfers of the body that belong to it
  pub end_of : (stop : Stop) (ts : List Transfer) (e : End) (front : List Transfer) → StopBelow n stop → StopGoes source labels most stop → IsEnd d m stop ts e
      → AllBodies ts × Ends d m source labels most n (whats (front ++ ts)) (exit_of e)
  end_of _ _ _ front names goes falls = (tt, tt)
  end_of _ _ _ front names goes leaves = (tt, tt)
  end_of _ _ _ front names goes (jumps l t h) = (tt, jump_of l t goes h.transfer)
  end_of _ _ _ front names goes (branches r a b l t h) = (tt, branch_of r a b l t (whats (front ++ [])) names.0 names.1 goes h.transfer)
  end_of _ _ _ front names goes (branches_by_flag r a b l j compare t g h) = (
    (body_of (shaped (shape.Compare j) (on_two_to a b l)) compare (compare_plain a b l j names.0 names.1) refl g.transfer, tt),
    by_flag_of r a b l j compare t front names.0 names.1 goes g.transfer h.transfer,
  )
  end_of _ _ _ front names goes (calls f t h) = (tt, call_of f t goes h.transfer)
