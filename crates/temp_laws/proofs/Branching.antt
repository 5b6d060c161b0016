-- A comparison and a branch by its flag do what the branch on the two operands does.
use Rattle.std.proofs.Common.{◌≡◌, ◌⊎◌, inl, inr, ℕ, zero, suc, ◌<◌, ◌^◌, Bool, true, List, [], ◌∷◌, Option, Some, None, Result, Ok, Err, refl, sym, subst, ap, arith, ◌∙◌}
use Rattle.std.specs.Prelude.{if◌then◌else◌}
use Rattle.rtl_word.specs.declared.Rel.{Rel}
use Rattle.rtl_word.specs.Words.{IsWordSize, word_rel}
use Rattle.rtl_word.proofs.Below.{by_size}
use Rattle.rtl_tree.specs.declared.cells.Cell.{Cell}
use Rattle.rtl_tree.specs.declared.cells.Cell.TheVariants.{Hard, Temp, Flag, Pc, Input, Output, Halt, Hole as RegisterHole}
use Rattle.rtl_tree.specs.declared.expressions.UnOp.TheVariants.{Test}
use Rattle.rtl_tree.specs.declared.expressions.BinOp.TheVariants.{Cmp, Pair, When}
use Rattle.rtl_tree.specs.Trees.{Tree, Number, Symbol, CodeLabel, Read, Load, Unary, Binary, NoPair, AnyNumber, AnyName}
use Rattle.rtl_tree.specs.Moves.{Goal, ToCell, ToMemory, Move}
use Rattle.rtl_tree.proofs.Equality.{same_cell-own}
use Rattle.rtl_effect.specs.Views.{Stop, Mark, Holds, Gone, View, bind, binary_seen, mark_test}
use Rattle.rtl_effect.specs.Effects.{mark_of_two, assigned, storing, Storing, Fine, done, jump, chosen, tested, event, went, Patch, patch_of, patched, Done, view_after, mark_after, cell_after, effect}
use Rattle.rtl_effect.specs.Agree.{Tells, blank, word, Marks, gone, holds, Refines, stops, gives, Agree, Within, GoalWithin, AllWithin, DoneAgree}
use Rattle.rtl_effect.specs.EffectLaws.{EffectGrows}
use Rattle.rtl_norm_value.specs.Kept.{IsWordView}
use Rattle.rtl_norm_value.specs.Effect.{jump_in_form, with_normal_jump}
use Rattle.md_shapes.specs.declared.patterns.Pattern.TheVariants as shape
use Rattle.md_shapes.specs.Shapes.{Frame, Open, shape_moves, set_cell}
use Rattle.md_said.specs.Sound.{SaidIsSound}
use Rattle.md_bounds.specs.Bounds.{SaidIsBounded}
use Rattle.md_filled.specs.Doing.{IsSameBut, DoesAs}
use Rattle.md_filled.proofs.Alike.{bound, ok_is, stop_is_no_ok}
use Rattle.md_filled.proofs.Lookups.{Among, assigned_from, stored_from}
use Rattle.md_filled.proofs.Doing.{unmapped}
use Rattle.temp_laws.specs.Doing.{FlagBranchesDoBranches}
use Rattle.temp_shapes.proofs.Roles.{checked_size}
use Rattle.temp_laws.proofs.Making.{Makes, made_of}
use Rattle.temp_laws.proofs.Places.{AtFlag, goes_to, from_cell, goal_same}
use Rattle.temp_laws.proofs.Simple.{at_one}
use Rattle.temp_laws.proofs.Doing.{shapes_done, bodies_done}

-- what an effect leaves of a view

record Viewed (w : ℕ) (ms : List Move) (v : View) (d : Done) : Type 0 where
  patch : Option Patch
  patch_is : patch_of w (storing ms) v ≡ Ok patch
  view : d.view ≡ view_after w ms patch v

viewed : (w : ℕ) (ms : List Move) (v : View) (d : Done) → effect w ms v ≡ Ok d → Viewed w ms v d
viewed w ms v d e =
    let t = bound (tested w ms v) _ d e in
    let o = bound (event w (assigned ms Output) v) _ d t.rest in
    let h = bound (event w (assigned ms Halt) v) _ d o.rest in
    let q = bound (went w (assigned ms Pc) v) _ d h.rest in
    let p = bound (patch_of w (storing ms) v) _ d q.rest in
    record { patch = p.value; patch_is = p.is; view = sym (ap (λ (x : Done). x.view) (ok_is _ d p.rest)) }

-- a transfer that sets the program counter alone

abbrev ending : ℕ → Tree → View → Option ℕ → Done
ending w t v q = record { view = view_after w (set_cell Pc t) None v; place = q; output = None; halt = None }

abbrev ended : ℕ → Tree → View → Result (Option ℕ) Stop → Result Done Stop
ended w t v j = bind (bind (done j) (λ x. let r : Fine = Ok tt in r)) (λ x. bind j (λ q. Ok (ending w t v q)))

is_ended : (w : ℕ) (t : Tree) (v : View) → effect w (set_cell Pc t) v ≡ ended w t v (jump w t v)
is_ended w t v = refl

ends : (w : ℕ) (t : Tree) (v : View) (q : Option ℕ) → jump w t v ≡ Ok q → effect w (set_cell Pc t) v ≡ Ok (ending w t v q)
ends w t v q e = is_ended w t v ∙ ap (ended w t v) e

record EndsAt (w : ℕ) (t : Tree) (v : View) (d : Done) (j : Result (Option ℕ) Stop) : Type 0 where
  place : Option ℕ
  is : j ≡ Ok place
  done_is : ending w t v place ≡ d

ends_from : (w : ℕ) (t : Tree) (v : View) (d : Done) (j : Result (Option ℕ) Stop) → ended w t v j ≡ Ok d → EndsAt w t v d j
ends_from w t v d (Ok q) e = record { place = q; is = refl; done_is = ok_is (ending w t v q) d e }
ends_from w t v d (Err s) e = absurd (stop_is_no_ok s d e)

-- the flag of a comparison passes a test where the operands do

chosen_same : (v u : View) (k t : Option ℕ) → u.cells Pc ≡ v.cells Pc → chosen u k t ≡ chosen v k t
chosen_same v u (Some zero) t e = ap (λ (x : Option ℕ). let r : Result (Option ℕ) Stop = Ok x in r) e
chosen_same v u (Some (suc n)) (Some y) e = refl
chosen_same v u (Some (suc n)) None e = refl
chosen_same v u None t e = refl

test_same : (w : ℕ) (r : Rel) (x y : Option ℕ) (v u : View) (t q : Option ℕ) → u.cells Pc ≡ v.cells Pc
    → bind (binary_seen w (Cmp r) x y) (λ k. chosen v k t) ≡ Ok q → bind (mark_test w r (mark_of_two x y)) (λ k. chosen u k t) ≡ Ok q
test_same w r (Some a) (Some b) v u t q e h = chosen_same v u (Some (word_rel w r a b)) t e ∙ h
test_same w r (Some a) None v u t q e h = absurd (stop_is_no_ok _ q h)
test_same w r None (Some b) v u t q e h = absurd (stop_is_no_ok _ q h)
test_same w r None None v u t q e h = absurd (stop_is_no_ok _ q h)

-- a view without the next byte of the input

abbrev blind : (Cell → Option ℕ) → Cell → Option ℕ
blind f Input = None
blind f c = f c

abbrev blinded : View → View
blinded u = record u { cells = blind u.cells }

tells_same : (x : Option ℕ) → Tells x x
tells_same None = blank None
tells_same (Some n) = word n

marks_same : (m : Mark) → Marks m m
marks_same Gone = gone Gone
marks_same (Holds a b) = holds a b

blind_tells : (u : View) (c : Cell) → Tells (blind u.cells c) (u.cells c)
blind_tells u Input = blank (u.cells Input)
blind_tells u (Hard n) = tells_same (u.cells (Hard n))
blind_tells u (Temp n) = tells_same (u.cells (Temp n))
blind_tells u (Flag n) = tells_same (u.cells (Flag n))
blind_tells u Pc = tells_same (u.cells Pc)
blind_tells u Output = tells_same (u.cells Output)
blind_tells u Halt = tells_same (u.cells Halt)
blind_tells u (RegisterHole n) = tells_same (u.cells (RegisterHole n))

abbrev all_cells : Cell → Bool
all_cells c = true

blind_agrees : (u : View) → Agree all_cells (blinded u) u
blind_agrees u = record {
  shows = record {
    cells = λ c h. blind_tells u c;
    flags = λ n h. marks_same (u.flags n);
    ground = record {
      bytes = λ a. tells_same (u.bytes a);
      size = refl;
      reach = λ a h. h;
      symbols = λ n. refl;
      labels = λ l. tells_same (u.labels l);
      targets = λ l. refl;
      places = λ n. refl;
      place = refl;
    };
  };
  input = refl;
}

within : (t : Tree) → Within all_cells t
within (Read c) = refl
within (Load d a) = within a
within (Unary o a) = within a
within (Binary o a b) = (within a, within b)
within (Number n) = tt
within (Symbol n) = tt
within (CodeLabel l) = tt
within NoPair = tt
within (AnyNumber n) = tt
within (AnyName n) = tt

goal_within : (g : Goal) → GoalWithin all_cells g
goal_within (ToCell c) = tt
goal_within (ToMemory d a) = within a

all_within : (ms : List Move) → AllWithin all_cells ms
all_within [] = tt
all_within (m ∷ ms) = (within m.value, goal_within m.to, all_within ms)

record Grown (x : Done) (q : Result Done Stop) : Type 0 where
  done : Done
  is : q ≡ Ok done
  agrees : DoneAgree all_cells x done

grown : (o q : Result Done Stop) (x : Done) → Refines Done Done (DoneAgree all_cells) o q → o ≡ Ok x → Grown x q
grown _ q x (stops s y) e = absurd (stop_is_no_ok s x e)
grown _ _ x (gives y z r) e = record { done = z; is = refl; agrees = subst (λ (k : Done). DoneAgree all_cells k z) (ok_is y x e) r }

-- a branch by a flag sets the program counter and flags alone

abbrev IsOperand : Cell → Type 0
IsOperand (Hard n) = Unit {0}
IsOperand (Temp n) = Unit {0}
IsOperand _ = ⊥

no_memory : (c : Cell) (s : Storing) → (let g : Goal = ToCell c in g ≡ ToMemory s.width s.place) → ⊥
no_memory c s e = cc

module _ (w g : ℕ) (frame : Frame) (r : Rel) (j : ℕ) (at : Open) (ms : List Move) (m : Makes w g (shape_moves frame (shape.BranchByFlag r j) at) ms) where
  goes_to_counter : (x : Move) → Among ms x → (x.to ≡ ToCell Pc) ⊎ AtFlag w g (shape_moves frame (shape.BranchByFlag r j) at) ms m x
  goes_to_counter x a = elim (goes_to w g (shape_moves frame (shape.BranchByFlag r j) at) ms m x a) [
    | inl s ↦ (let e = at_one _ s.move s.among.place s.among.is in
        inl (from_cell x.to s.move.to Pc s.same (ap (λ (y : Move). y.to) (sym e))))
    | inr f ↦ inr f
  ]

  abbrev jumps : List Move
  jumps = with_normal_jump w ms

  abbrev formed : Move → Move
  formed x = record { to = x.to; value = jump_in_form w x.to x.value }

  not_operand : (c : Cell) (x : Move) → IsOperand c → Among ms x → x.to ≡ ToCell c → ⊥
  not_operand c x o a e = elim (goes_to_counter x a) [
    | inl p ↦ subst IsOperand (sym (goal_same Pc c (sym p ∙ e))) o
    | inr f ↦ subst IsOperand (sym (goal_same (Flag f.flag) c (sym f.is ∙ e))) o
  ]

  unassigned : (c : Cell) → IsOperand c → assigned jumps c ≡ None
  unassigned c o = by (assigned jumps c) refl
    where
      by : (q : Option Tree) → assigned jumps c ≡ q → q ≡ None
      by None e = refl
      by (Some t) e =
          let a = assigned_from jumps c t e in
          let from = unmapped formed ms a.among.place a.move a.among.is in
          absurd (not_operand c from.from o (record { place = a.among.place; is = from.is }) (ap (λ (y : Move). y.to) from.to ∙ a.to))

  no_store : (x : Move) (s : Storing) → Among ms x → x.to ≡ ToMemory s.width s.place → ⊥
  no_store x s a e = elim (goes_to_counter x a) [ inl p ↦ no_memory Pc s (sym p ∙ e) | inr f ↦ no_memory (Flag f.flag) s (sym f.is ∙ e) ]

  unstored : storing jumps ≡ None
  unstored = by (storing jumps) refl
    where
      by : (q : Option Storing) → storing jumps ≡ q → q ≡ None
      by None e = refl
      by (Some s) e =
          let a = stored_from jumps s e in
          let from = unmapped formed ms a.among.place a.move a.among.is in
          absurd (no_store from.from s (record { place = a.among.place; is = from.is }) (ap (λ (y : Move). y.to) from.to ∙ a.to))

none_is : (p : Option Patch) → (let r : Result (Option Patch) Stop = Ok None in r ≡ Ok p) → p ≡ None
none_is p e = sym (ok_is None p e)

module _ (w g : ℕ) (size : IsWordSize w) (grows : EffectGrows) (frame : Frame) (r : Rel) (j : ℕ) (at : Open) (comparing ms : List Move)
    (m : Makes w g (shape_moves frame (shape.BranchByFlag r j) at) ms)
    (compares : DoesAs w (shape_moves frame (shape.Compare j) at) comparing)
    (branches : DoesAs w (shape_moves frame (shape.BranchByFlag r j) at) (with_normal_jump w ms)) where
  abbrev pair : Tree
  pair = Binary Pair (Read at.a) (Read at.b)

  abbrev condition : Tree
  condition = Binary When (Binary (Cmp r) (Read at.a) (Read at.b)) (CodeLabel at.label)

  abbrev test : Tree
  test = Binary When (Unary (Test r) (Read (Flag j))) (CodeLabel at.label)

  -- what the comparison of the shape does
  abbrev compared : View → Done
  compared v = record { view = view_after w (set_cell (Flag j) pair) None v; place = v.cells Pc; output = None; halt = None }

  compared_is : (v : View) → effect w (set_cell (Flag j) pair) v ≡ Ok (compared v)
  compared_is v = refl

  flag_assigned : assigned (set_cell (Flag j) pair) (Flag j) ≡ Some pair
  flag_assigned = ap (λ (b : Bool). if b then Some pair else None) (same_cell-own (Flag j))

  positive : 0 < 2 ^ w
  positive = by_size (λ n. 0 < 2 ^ n) (omega arith) (omega arith) w size

  module _ (v : View) (words : IsWordView w v) (e : Done) (is : effect w comparing v ≡ Ok e) (same : IsSameBut (set_cell (Flag j) pair) (compared v) e) where
    abbrev u : View
    u = blinded e.view

    seen_after : Viewed w comparing v e
    seen_after = viewed w comparing v e is

    flag_is : e.view.flags j ≡ mark_of_two (v.cells at.a) (v.cells at.b)
    flag_is = same.flags j pair flag_assigned ∙ ap (λ (o : Option Tree). mark_after w o v (v.flags j)) flag_assigned

    zero_word : (x : Option ℕ) (n : ℕ) → x ≡ Some 0 → x ≡ Some n → n < 2 ^ w
    zero_word x n a b = let k : 0 ≡ n = cc in subst (λ (i : ℕ). i < 2 ^ w) k positive

    cell_word : (c : Cell) (n : ℕ) → u.cells c ≡ Some n → n < 2 ^ w
    cell_word (Hard k) n h = words.cells (Hard k) n (sym (same.registers k) ∙ h)
    cell_word (Temp k) n h = words.cells (Temp k) n (sym (same.temps k) ∙ h)
    cell_word (Flag k) n h = zero_word _ n (ap (λ (x : View). x.cells (Flag k)) seen_after.view) h
    cell_word Pc n h = words.cells Pc n (sym (ap (λ (x : View). x.cells Pc) seen_after.view) ∙ h)
    cell_word Input n h = absurd (let k : None ≡ Some n = h in cc)
    cell_word Output n h = zero_word _ n (ap (λ (x : View). x.cells Output) seen_after.view) h
    cell_word Halt n h = zero_word _ n (ap (λ (x : View). x.cells Halt) seen_after.view) h
    cell_word (RegisterHole k) n h = zero_word _ n (ap (λ (x : View). x.cells (RegisterHole k)) seen_after.view) h

    words_after : IsWordView w u
    words_after = record {
      cells = cell_word;
      bytes = λ a n h. words.bytes a n (sym (same.bytes a) ∙ h);
      symbols = λ n. subst (λ (k : ℕ). k < 2 ^ w) (sym (ap (λ (x : View). x.symbols n) seen_after.view)) (words.symbols n);
      labels = λ l n h. words.labels l n (sym (ap (λ (x : View). x.labels l) seen_after.view) ∙ h);
    }

    -- the branch by the flag goes where the branch on the operands goes
    jump_same : (q : Option ℕ) → jump w condition v ≡ Ok q → jump w test u ≡ Ok q
    jump_same q h =
        ap (λ (k : Mark). bind (mark_test w r k) (λ x. chosen u x (u.targets at.label))) flag_is
        ∙ (ap (λ (t : Option ℕ). bind (mark_test w r (mark_of_two (v.cells at.a) (v.cells at.b))) (λ x. chosen u x t))
        (ap (λ (x : View). x.targets at.label) seen_after.view)
        ∙ test_same w r (v.cells at.a) (v.cells at.b) v u (v.targets at.label) q (ap (λ (x : View). x.cells Pc) seen_after.view) h)

    module _ (q : Option ℕ) (f : Done) (gone : effect w (with_normal_jump w ms) u ≡ Ok f) (branched : IsSameBut (set_cell Pc test) (ending w test u q) f)
        (x : Grown f (effect w (with_normal_jump w ms) e.view)) where
      last : Viewed w (with_normal_jump w ms) e.view x.done
      last = viewed w (with_normal_jump w ms) e.view x.done x.is

      no_patch : last.patch ≡ None
      no_patch =
          none_is last.patch (sym (ap (λ (o : Option Storing). patch_of w o e.view) (unstored w g frame r j at ms m)) ∙ last.patch_is)

      operand_kept : (c : Cell) → IsOperand c → (o : Option ℕ) → cell_after w (assigned (with_normal_jump w ms) c) e.view o ≡ o
      operand_kept c h o = ap (λ (t : Option Tree). cell_after w t e.view o) (unassigned w g frame r j at ms m c h)

      both_same : IsSameBut (set_cell Pc condition) (ending w condition v q) x.done
      both_same = record {
        temps = λ n. ap (λ (z : View). z.cells (Temp n)) last.view ∙ (operand_kept (Temp n) tt (e.view.cells (Temp n)) ∙ same.temps n);
        registers = λ n. ap (λ (z : View). z.cells (Hard n)) last.view ∙ (operand_kept (Hard n) tt (e.view.cells (Hard n)) ∙ same.registers n);
        flags = λ n t h. absurd (let k : None ≡ Some t = h in cc);
        bytes = λ a. ap (λ (z : View). z.bytes a) last.view ∙ (ap (λ (o : Option Patch). patched o e.view.bytes a) no_patch ∙ same.bytes a);
        input = sym x.agrees.view.input ∙ (branched.input ∙ same.input);
        place = sym x.agrees.place ∙ branched.place;
        output = sym x.agrees.output ∙ branched.output;
        halt = sym x.agrees.halt ∙ branched.halt;
      }

  abbrev InTwo : View → Done → Type 0
  InTwo v x =
      (e f : Done) × (effect w comparing v ≡ Ok e) × (effect w (with_normal_jump w ms) e.view ≡ Ok f) × (e.output ≡ None) × (e.halt ≡ None)
      × IsSameBut (set_cell Pc condition) x f

  in_two_by : (v : View) (q : Option ℕ) → IsWordView w v → jump w condition v ≡ Ok q → InTwo v (ending w condition v q)
  in_two_by v q k h =
      let c = compares.does v (compared v) k (compared_is v) in
      let u = blinded c.0.view in
      let b = branches.does u (ending w test u q) (words_after v k c.0 c.1 c.2) (ends w test u q (jump_same v k c.0 c.1 c.2 q h)) in
      let x = grown _ _ b.0 (grows all_cells u c.0.view (blind_agrees c.0.view) w (with_normal_jump w ms) (all_within (with_normal_jump w ms)) all_cells (λ d y z. refl)) b.1 in
      (c.0, x.done, c.1, x.is, c.2.output, c.2.halt, both_same v k c.0 c.1 c.2 q b.0 b.1 b.2 x)

  pub in_two : (v : View) (x : Done) → IsWordView w v → effect w (set_cell Pc condition) v ≡ Ok x → InTwo v x
  in_two v x k h =
      let s = ends_from w condition v x (jump w condition v) h in
      subst (InTwo v) s.done_is (in_two_by v s.place k s.is)

pub flag_branches_done : SaidIsSound → SaidIsBounded → EffectGrows → FlagBranchesDoBranches
flag_branches_done sound bounded grows w d frame r j at compares jumps c fit h k v x words e =
    in_two d.word _ (checked_size w d sound c) grows frame r j at compares.what jumps.what
    (made_of w d frame (shape.BranchByFlag r j) at jumps sound bounded c k)
    (bodies_done sound bounded w d frame (shape.Compare j) at compares c (record { a = fit.a; b = fit.b; number = tt }) h refl)
    (shapes_done sound bounded w d frame (shape.BranchByFlag r j) at jumps c (record { a = fit.a; b = fit.b; number = tt }) k)
    v x words e
