-- A transfer that a row does is calm.
use Rattle.std.proofs.Common.{◌≡◌, ◌⊎◌, inl, inr, ℕ, zero, suc, Bool, true, false, ◌||◌, cond, List, [], ◌∷◌, map, slice_get, Option, Some, None, Ok, refl, sym, subst, ap, ◌∙◌}
use Rattle.rtl_word.specs.Words.{IsWordSize}
use Rattle.rtl_tree.specs.declared.cells.Cell.{Cell}
use Rattle.rtl_tree.specs.declared.cells.Lab.{Lab}
use Rattle.rtl_tree.specs.Same.{same_cell}
use Rattle.rtl_tree.proofs.Equality.{and_left}
use Rattle.rtl_tree.specs.declared.cells.Cell.TheVariants.{Hard, Temp, Flag, Pc, Input, Output, Halt, Hole as RegisterHole}
use Rattle.rtl_tree.specs.Trees.{Tree, Number, Symbol, CodeLabel, Read, Load, Unary, Binary, NoPair, AnyNumber, AnyName}
use Rattle.rtl_tree.specs.Moves.{Goal, ToCell, ToMemory, Move}
use Rattle.rtl_tree.specs.Likeness.{IsAlike, equal, loads, unaries, straight, crossed}
use Rattle.rtl_tree.specs.WellFormed.{compares_for_flag, jumps_by_counter, tests_flags, IsPlaced}
use Rattle.rtl_norm.specs.Normal.{norm}
use Rattle.rtl_norm.specs.Transfers.{norm_goal, norm_value, norm_move, norm_moves, IsGoalFitting, IsMoveFitting}
use Rattle.rtl_tree.specs.Sorts.{IsFitting}
use Rattle.rtl_effect.specs.Views.{View}
use Rattle.rtl_effect.specs.Effects.{tested_by, tested}
use Rattle.rtl_norm_value.specs.Kept.{IsWordView}
use Rattle.rtl_norm_value.specs.Effect.{jump_in_form, with_normal_jump}
use Rattle.md_rows.specs.declared.instance.Bound.{Bound}
use Rattle.md_rows.specs.Instances.{filled, filled_goal, filled_move, general_set}
use Rattle.md_match.proofs.Apart.{from_at}
use Rattle.md_match.specs.Searches.{Marks, no_marks, is_marked, goal_tree, is_flag_of, is_idle, occurs_by, occurs_in_move}
use Rattle.md_match.specs.Does.{IsAlikeMove, Takes, IsMarked, AllTraps, IsPartOfMarked, Does}
use Rattle.md_shapes.specs.declared.patterns.Pattern.{Pattern}
use Rattle.md_shapes.specs.declared.patterns.Pattern.TheVariants as shape
use Rattle.md_shapes.specs.Shapes.{Frame, Open, shape_moves, call_moves, return_moves, saved, restored, stack_plus}
use Rattle.md_covers.specs.Covers.{IsGeneral, general_bits}
use Rattle.md_said.specs.Sound.{SaidIsSound}
use Rattle.md_bounds.specs.Bounds.{SaidIsBounded}
use Rattle.md_filled.specs.Held.{IsHeld}
use Rattle.md_filled.specs.Plain.{IsPlain}
use Rattle.md_filled.specs.Doing.{IsHeldMove, IsRowFilled}
use Rattle.md_filled.proofs.Rewriting.{norm_held}
use Rattle.md_filled.proofs.Alike.{bound}
use Rattle.md_filled.proofs.Sorted.{alike_numberless, plain_of}
use Rattle.md_filled.proofs.Lookups.{Among, tested_all}
use Rattle.md_filled.proofs.Doing.{none_some, some_same, mapped, unmapped, all_at, of_marked, no_mark, flag_goal}
use Rattle.md_filled.proofs.Traps.{IsTrapNode, IsSeen}
use Rattle.md_filled.proofs.Others.{fine_flag}
use Rattle.temp_machine.specs.Cells.{sets_by, some_set}
use Rattle.temp_shapes.proofs.Roles.{checked_size}
use Rattle.temp_laws.proofs.Doing.{body_sets}
use Rattle.temp_laws.proofs.Making.{made_of}
use Rattle.temp_laws.proofs.Places.{SamePlace, cells, stores, place_same, to_cell, sets_equal}
use Rattle.temp_laws.proofs.Simple.{shape_simple}
use Rattle.color_cores.specs.Cores.{is_wanted, core}
use Rattle.row_laws.proofs.Filled.{register_goal}
use Rattle.row_laws.proofs.Rows.{good_rows, instance_held}
use Rattle.row_colors.specs.Calm.{IsCalm, IsSafe, RowsAreCalm, ShapesAreCalm, BodiesAreCalm}
use Rattle.row_colors.proofs.Testing.{assigned_part, place_part}

unlike : false ≡ true → ⊥
unlike e = cc

-- trees in which nothing can trap

abbrev Trapless : Tree → Type 0
Trapless t = AllTraps (λ x. ⊥) t

alike_trapless : (x y : Tree) → IsAlike x y → Trapless y → Trapless x
alike_trapless _ _ (equal a) h = h
alike_trapless _ _ (loads d a c i) h = absurd h.0
alike_trapless _ _ (unaries o a c i) h = (h.0, alike_trapless a c i h.1)
alike_trapless _ _ (straight o a b c d i j) h = (h.0, alike_trapless a c i h.1, alike_trapless b d j h.2)
alike_trapless _ _ (crossed o a b c d k i j) h = (h.0, alike_trapless a d i h.2, alike_trapless b c j h.1)

open_trapless : (b : List Bound) (t : Tree) → Trapless (filled b t) → Trapless t
open_trapless b (Load d a) h = absurd h.0
open_trapless b (Unary o a) h = (h.0, open_trapless b a h.1)
open_trapless b (Binary o a c) h = (h.0, open_trapless b a h.1, open_trapless b c h.2)
open_trapless b (Number n) h = tt
open_trapless b (Symbol n) h = tt
open_trapless b (CodeLabel l) h = tt
open_trapless b (Read c) h = tt
open_trapless b NoPair h = tt
open_trapless b (AnyNumber n) h = tt
open_trapless b (AnyName n) h = tt

-- what is wanted is tested in the core

module _ (wanted : ℕ → Bool) (w : ℕ) (v : View) where
  core_tests : (ms : List Move) → tested w (core wanted ms) v ≡ Ok tt → (i : ℕ) (m : Move) → slice_get ms i ≡ Some m → is_wanted wanted m.to ≡ true
      → tested_by w m.to m.value v ≡ Ok tt
  core_tests [] e i m is on = absurd (none_some m is)
  core_tests (x ∷ ms) e i m is on = by (is_wanted wanted x.to) refl (core_tests ms) i is e
    where
      by : (q : Bool) → is_wanted wanted x.to ≡ q
          → (tested w (core wanted ms) v ≡ Ok tt → (j : ℕ) (n : Move) → slice_get ms j ≡ Some n → is_wanted wanted n.to ≡ true → tested_by w n.to n.value v ≡ Ok tt)
          → (j : ℕ) → slice_get (x ∷ ms) j ≡ Some m → tested w (cond q (x ∷ core wanted ms) (core wanted ms)) v ≡ Ok tt → tested_by w m.to m.value v ≡ Ok tt
      by true f next zero s g =
          let t = bound (tested_by w x.to x.value v) (λ y. tested w (core wanted ms) v) tt g in
          subst (λ (y : Move). tested_by w y.to y.value v ≡ Ok tt) (some_same x m s) t.is
      by true f next (suc j) s g =
          let t = bound (tested_by w x.to x.value v) (λ y. tested w (core wanted ms) v) tt g in next t.rest j m s on
      by false f next zero s g =
          let q : true ≡ false = sym on ∙ (ap (λ (y : Move). is_wanted wanted y.to) (sym (some_same x m s)) ∙ f) in cc
      by false f next (suc j) s g = next g j m s on

place_wanted : (wanted : ℕ → Bool) (g h : Goal) → SamePlace g h → is_wanted wanted h ≡ true → is_wanted wanted g ≡ true
place_wanted wanted _ _ (cells c) e = e
place_wanted wanted _ _ (stores d a c) e = refl

either_of : (a b : Bool) → (a || b) ≡ true → (a ≡ true) ⊎ (b ≡ true)
either_of true b e = inl refl
either_of false b e = inr e

-- a place that is a flag once it is filled is one

hard_no_flag : (k n : ℕ) → (let g : Goal = ToCell (Hard k) in g ≡ ToCell (Flag n)) → ⊥
hard_no_flag k n e = cc

temp_no_flag : (k n : ℕ) → (let g : Goal = ToCell (Temp k) in g ≡ ToCell (Flag n)) → ⊥
temp_no_flag k n e = cc

flag_filled : (w : ℕ) (b : List Bound) (g : Goal) (n : ℕ) → IsHeld w b (goal_tree g) → filled_goal b g ≡ ToCell (Flag n) → g ≡ ToCell (Flag n)
flag_filled w b (ToCell (RegisterHole h)) n i e =
    absurd (register_goal (λ g. g ≡ ToCell (Flag n) → ⊥) h (slice_get b h) i (λ k. hard_no_flag k n) (λ k. temp_no_flag k n) e)
flag_filled w b (ToCell (Hard m)) n i e = e
flag_filled w b (ToCell (Temp m)) n i e = e
flag_filled w b (ToCell (Flag m)) n i e = e
flag_filled w b (ToCell Pc) n i e = e
flag_filled w b (ToCell Input) n i e = e
flag_filled w b (ToCell Output) n i e = e
flag_filled w b (ToCell Halt) n i e = e
flag_filled w b (ToMemory d a) n i e = absurd (cc)

record FlagGoal (g : Goal) : Type 0 where
  flag : ℕ
  is : g ≡ ToCell (Flag flag)

unwanted : (wanted : ℕ → Bool) (g : Goal) → is_wanted wanted g ≡ false → FlagGoal g
unwanted wanted (ToCell (Flag n)) e = record { flag = n; is = refl }
unwanted wanted (ToCell (Hard n)) e = let q : true ≡ false = e in cc
unwanted wanted (ToCell (Temp n)) e = let q : true ≡ false = e in cc
unwanted wanted (ToCell Pc) e = let q : true ≡ false = e in cc
unwanted wanted (ToCell Input) e = let q : true ≡ false = e in cc
unwanted wanted (ToCell Output) e = let q : true ≡ false = e in cc
unwanted wanted (ToCell Halt) e = let q : true ≡ false = e in cc
unwanted wanted (ToCell (RegisterHole n)) e = let q : true ≡ false = e in cc
unwanted wanted (ToMemory d a) e = let q : true ≡ false = e in cc

goal_fits : (w : ℕ) (g : Goal) → IsGoalFitting w g → IsFitting w (goal_tree g)
goal_fits w (ToCell c) f = tt
goal_fits w (ToMemory d a) f = f

-- a row and a binding that do a transfer
module _ (w : ℕ) (b : List Bound) (effects es : List Move) (marks : Marks) (z : IsWordSize w) (row : IsRowFilled w b effects)
    (taking : Takes (norm_moves w effects) b no_marks es marks)
    (others : (r : Move) → IsMarked (norm_moves w effects) marks false r → is_flag_of 255 r.to ≡ true)
    (traps : (r : Move) → IsMarked (norm_moves w effects) marks false r → AllTraps (IsPartOfMarked (norm_moves w effects) marks b) r.value)
    (wanted : ℕ → Bool) (safe : IsSafe wanted es) (v : View) (k : IsWordView w v) where
  abbrev made : Move → Move
  made e = record { to = filled_goal b e.to; value = jump_in_form w (filled_goal b e.to) (filled b e.value) }

  abbrev new : List Move
  new = map made effects

  held_at : (i : ℕ) (e : Move) → slice_get effects i ≡ Some e → IsHeldMove w b e
  held_at i e is = all_at (IsHeldMove w b) effects i e row.held is

  fits_at : (i : ℕ) (e : Move) → slice_get effects i ≡ Some e → IsMoveFitting w e
  fits_at i e is = all_at (IsMoveFitting w) effects i e row.numbers is

  placed_at : (i : ℕ) (e : Move) → slice_get effects i ≡ Some e → IsPlaced e
  placed_at i e is = all_at IsPlaced effects i e row.formed.placed is

  -- an assignment to a flag is made where what can trap in its normal form is seen
  flag_made : (P : Tree → Type 0) (g : Goal) (t : Tree) (n : ℕ) → g ≡ ToCell (Flag n) → IsHeld w b t → IsFitting w t → compares_for_flag g t ≡ true → tests_flags g t ≡ true
      → jumps_by_counter g t ≡ true → AllTraps P (norm_value w g t) → ((x : Tree) → IsTrapNode x → P x → IsSeen w b v (filled b x))
      → tested_by w (filled_goal b g) (jump_in_form w (filled_goal b g) (filled b t)) v ≡ Ok tt
  flag_made P g t n e h f c l j a seen =
      subst (λ (x : Goal). tested_by w (filled_goal b x) (jump_in_form w (filled_goal b x) (filled b t)) v ≡ Ok tt) (sym e)
      (fine_flag w b v z k P n t h f (subst (λ (x : Goal). tests_flags x t ≡ true) e l) (subst (λ (x : Goal). compares_for_flag x t ≡ true) e c)
      (subst (λ (x : Goal). jumps_by_counter x t ≡ true) e j) (subst (λ (x : Goal). AllTraps P (norm_value w x t)) e a) seen)

  record Taken (e : Move) : Type 0 where
    move : Move
    among : Among es move
    alike : IsAlikeMove b (norm_move w e) move

  taken : (i : ℕ) (e : Move) → slice_get effects i ≡ Some e → is_marked marks i ≡ true → Taken e
  taken i e is q =
      let p = of_marked (norm_moves w effects) b es no_marks marks i taking q (no_mark i) in
      let same : p.row_move ≡ norm_move w e = some_same _ _ (sym p.row_is ∙ mapped (norm_move w) effects i e is) in
      record { move = p.move; among = p.among; alike = subst (λ (r : Move). IsAlikeMove b r p.move) same p.alike }

  -- a jump of the row has no hole for a number in its normal form
  plain_jump : (e : Move) → IsHeldMove w b e → Taken e → e.to ≡ ToCell Pc → IsPlain (norm w e.value)
  plain_jump e h t g =
      let same = place_same w b e.to t.move.to h.place t.alike.place in
      let to = to_cell (filled_goal b e.to) t.move.to Pc same (ap (filled_goal b) g) in
      let alike = subst (λ (x : Goal). IsAlike (filled b (norm_value w x e.value)) t.move.value) g t.alike.value in
      plain_of w b (norm w e.value) (norm_held w b e.value h.value)
      (alike_numberless (filled b (norm w e.value)) t.move.value alike (safe.jump t.among.place t.move t.among.is to))

  module _ (fine : tested w (core wanted new) v ≡ Ok tt) where
    free_tested : (e : Move) → IsHeldMove w b e → IsMoveFitting w e → IsPlaced e → (t : Taken e) → Trapless t.move.value → is_wanted wanted (filled_goal b e.to) ≡ false
        → tested_by w (made e).to (made e).value v ≡ Ok tt
    free_tested e h f p t free s =
        let g = unwanted wanted (filled_goal b e.to) s in
        let to = flag_filled w b e.to g.flag h.place g.is in
        flag_made (λ x. ⊥) e.to e.value g.flag to h.value f.1 p.flags p.tests p.jumps
        (open_trapless b (norm_value w e.to e.value) (alike_trapless (filled b (norm_value w e.to e.value)) t.move.value t.alike.value free)) (λ x n none. absurd none)

    -- each marked assignment is made
    marked_tested : (i : ℕ) (e : Move) → slice_get effects i ≡ Some e → Taken e → tested_by w (made e).to (made e).value v ≡ Ok tt
    marked_tested i e is t = by (is_wanted wanted (filled_goal b e.to)) refl
      where
        unlike_place : is_wanted wanted t.move.to ≡ true → is_wanted wanted (filled_goal b e.to) ≡ false → ⊥
        unlike_place on s =
            let same = place_same w b e.to t.move.to (held_at i e is).place t.alike.place in
            let o : true ≡ false = sym (place_wanted wanted (filled_goal b e.to) t.move.to same on) ∙ s in
            cc

        by : (s : Bool) → is_wanted wanted (filled_goal b e.to) ≡ s → tested_by w (made e).to (made e).value v ≡ Ok tt
        by true s = core_tests wanted w v new fine i (made e) (mapped made effects i e is) s
        by false s = elim (safe.each t.among.place t.move t.among.is) [
          | inl on ↦ absurd (unlike_place on s)
          | inr free ↦ free_tested e (held_at i e is) (fits_at i e is) (placed_at i e is) t free s
        ]

    -- so what can trap in one is seen
    part_of : (x : Tree) → IsTrapNode x → (i : ℕ) (e : Move) → slice_get effects i ≡ Some e → Taken e
        → (occurs_by (filled b) x (goal_tree (norm_goal w e.to)) || occurs_by (filled b) x (norm_value w e.to e.value)) ≡ true → IsSeen w b v (filled b x)
    part_of x n i e is t p =
        let h = held_at i e is in
        let f = fits_at i e is in
        let c = placed_at i e is in
        let test = marked_tested i e is t in
        elim (either_of (occurs_by (filled b) x (goal_tree (norm_goal w e.to))) (occurs_by (filled b) x (norm_value w e.to e.value)) p) [
          | inl o ↦ place_part w b v z k e.to e.value x n h.place (goal_fits w e.to f.0) c.flags c.tests c.jumps test o
          | inr o ↦ assigned_part w b v z k e.to e.value x n h.place h.value f.1 c.flags c.tests c.jumps (plain_jump e h t) test o
        ]

    part_is_seen : (x : Tree) → IsTrapNode x → IsPartOfMarked (norm_moves w effects) marks b x → IsSeen w b v (filled b x)
    part_is_seen x n p =
        let from = unmapped (norm_move w) effects p.marked.place p.move p.marked.is in
        part_of x n p.marked.place from.from from.is (taken p.marked.place from.from from.is p.marked.marked)
        (subst (λ (m : Move). occurs_in_move (filled b) x m ≡ true) (sym from.to) p.part)

    idle_tested : (i : ℕ) (e : Move) → slice_get effects i ≡ Some e → is_marked marks i ≡ false → tested_by w (made e).to (made e).value v ≡ Ok tt
    idle_tested i e is q =
        let m : IsMarked (norm_moves w effects) marks false (norm_move w e) = record { place = i; is = mapped (norm_move w) effects i e is; marked = q } in
        let g = flag_goal w e.to (others (norm_move w e) m) in
        let p = placed_at i e is in
        flag_made (IsPartOfMarked (norm_moves w effects) marks b) e.to e.value g.flag g.is (held_at i e is).value (fits_at i e is).1 p.flags p.tests p.jumps
        (traps (norm_move w e) m) part_is_seen

    each_tested : (i : ℕ) (e : Move) → slice_get effects i ≡ Some e → tested_by w (made e).to (made e).value v ≡ Ok tt
    each_tested i e is = by (is_marked marks i) refl
      where
        by : (q : Bool) → is_marked marks i ≡ q → tested_by w (made e).to (made e).value v ≡ Ok tt
        by true q = marked_tested i e is (taken i e is q)
        by false q = idle_tested i e is q

    all_made : tested w new v ≡ Ok tt
    all_made = tested_all w new v (λ n a.
        let from = unmapped made effects a.place n a.is in subst (λ (x : Move). tested_by w x.to x.value v ≡ Ok tt) from.to (each_tested a.place from.from from.is))

composed : (w : ℕ) (b : List Bound) (ms : List Move)
    → with_normal_jump w (map (filled_move b) ms) ≡ map (λ e. record { to = filled_goal b e.to; value = jump_in_form w (filled_goal b e.to) (filled b e.value) }) ms
composed w b [] = refl
composed w b (m ∷ ms) =
    ap (λ (xs : List Move). record { to = filled_goal b m.to; value = jump_in_form w (filled_goal b m.to) (filled b m.value) } ∷ xs) (composed w b ms)

row_calm : (w : ℕ) (b : List Bound) (effects es : List Move) (marks : Marks) → IsWordSize w → IsRowFilled w b effects → Takes (norm_moves w effects) b no_marks es marks
    → ((r : Move) → IsMarked (norm_moves w effects) marks false r → is_flag_of 255 r.to ≡ true)
    → ((r : Move) → IsMarked (norm_moves w effects) marks false r → AllTraps (IsPartOfMarked (norm_moves w effects) marks b) r.value)
    → (wanted : ℕ → Bool) → IsSafe wanted es → IsCalm w wanted (with_normal_jump w (map (filled_move b) effects))
row_calm w b effects es marks z row taking others traps wanted safe =
    subst (IsCalm w wanted) (sym (composed w b effects)) (λ v k fine. all_made w b effects es marks z row taking others traps wanted safe v k fine)

pub rows_calm : SaidIsSound → SaidIsBounded → RowsAreCalm
rows_calm sound bounded w d idle es t wanted c h flags safe =
    let good = good_rows w d sound bounded c t.by.row h.row h.instance.has_row in
    let does = subst (λ (ns : List Move). Does d.word (general_set d.registers) h.row.holes idle ns es t.by.binding h.marks) good.normal h.does in
    let filled : IsRowFilled d.word t.by.binding h.row.effects = record {
      held = from_at (IsHeldMove d.word t.by.binding) h.row.effects (instance_held d t.by h.row good h.instance);
      numbers = good.numbers;
      formed = good.formed;
    } in
    subst (λ (ms : List Move). IsCalm d.word wanted (with_normal_jump d.word ms)) (sym h.effects)
    (row_calm d.word t.by.binding h.row.effects es h.marks (checked_size w d sound c) filled does.takes (λ r m. flags r (does.others r m)) does.traps wanted safe)

-- the assignments of shapes are safe, whatever is wanted

module _ (wanted : ℕ → Bool) where
  abbrev Safe : Move → Type 0
  Safe m = (is_wanted wanted m.to ≡ true) ⊎ Trapless m.value

  data AllSafe : List Move → Type 0 where
    no_move : AllSafe []
    a_move : (m : Move) (ms : List Move) → Safe m → AllSafe ms → AllSafe (m ∷ ms)

  safe_at : (ms : List Move) → AllSafe ms → (i : ℕ) (m : Move) → slice_get ms i ≡ Some m → Safe m
  safe_at _ no_move i m e = absurd (none_some m e)
  safe_at _ (a_move x ms s h) zero m e = subst Safe (some_same x m e) s
  safe_at _ (a_move x ms s h) (suc i) m e = safe_at ms h i m e

  call_safe : (m : Frame) (z : Option ℕ) (l : Lab) → AllSafe (call_moves m z l)
  call_safe m (Some z) l = a_move _ _ (inl refl) (a_move _ _ (inl refl) no_move)
  call_safe m None l = a_move _ _ (inl refl) (a_move _ _ (inl refl) (a_move _ _ (inl refl) no_move))

  return_safe : (m : Frame) (z : Option ℕ) → AllSafe (return_moves m z)
  return_safe m (Some z) = a_move _ _ (inl refl) no_move
  return_safe m None = a_move _ _ (inl refl) (a_move _ _ (inl refl) no_move)

  save_safe : (z : Option ℕ) (at : Tree) → AllSafe (saved z at)
  save_safe (Some z) at = a_move _ _ (inl refl) no_move
  save_safe None at = no_move

  restore_safe : (z : Option ℕ) (at : Tree) → AllSafe (restored z at)
  restore_safe (Some z) at = a_move _ _ (inl refl) no_move
  restore_safe None at = no_move

  general_wanted : (g : ℕ) (c : Cell) → IsGeneral g c → is_wanted wanted (ToCell c) ≡ true
  general_wanted g (Hard n) h = refl
  general_wanted g (Temp n) h = refl
  general_wanted g (Flag n) h = absurd h
  general_wanted g Pc h = absurd h
  general_wanted g Input h = absurd h
  general_wanted g Output h = absurd h
  general_wanted g Halt h = absurd h
  general_wanted g (RegisterHole n) h = absurd h

  module _ (m : Frame) (g : ℕ) (p : Open) (a : IsGeneral g p.a) where
    sets_a : (t : Tree) → AllSafe (record { to = ToCell p.a; value = t } ∷ [])
    sets_a t = a_move _ _ (inl (general_wanted g p.a a)) no_move

    shape_safe : (q : Pattern) → AllSafe (shape_moves m q p)
    shape_safe shape.Copy = sets_a _
    shape_safe shape.SetNumber = sets_a _
    shape_safe shape.SetSymbol = sets_a _
    shape_safe shape.Load = sets_a _
    shape_safe shape.Store = a_move _ _ (inl refl) no_move
    shape_safe shape.LoadByte = sets_a _
    shape_safe shape.StoreByte = a_move _ _ (inl refl) no_move
    shape_safe shape.LoadHome = sets_a _
    shape_safe shape.StoreHome = a_move _ _ (inl refl) no_move
    shape_safe shape.StoreTop = a_move _ _ (inl refl) no_move
    shape_safe shape.ReadStack = sets_a _
    shape_safe shape.MoveStack = a_move _ _ (inl refl) no_move
    shape_safe shape.SetStack = a_move _ _ (inl refl) no_move
    shape_safe (shape.Operate o) = sets_a _
    shape_safe shape.Complement = sets_a _
    shape_safe shape.Clear = sets_a _
    shape_safe shape.Jump = a_move _ _ (inl refl) no_move
    shape_safe (shape.Branch r) = a_move _ _ (inl refl) no_move
    shape_safe (shape.Compare j) = a_move _ _ (inr ((λ e. unlike e), tt, tt)) no_move
    shape_safe (shape.BranchByFlag r j) = a_move _ _ (inl refl) no_move
    shape_safe shape.Call = call_safe m m.link p.label
    shape_safe shape.Return = return_safe m m.link
    shape_safe shape.SaveLink = save_safe m.link (stack_plus m p.number)
    shape_safe shape.RestoreLink = restore_safe m.link (stack_plus m p.number)
    shape_safe shape.TakeInput = a_move _ _ (inl refl) no_move
    shape_safe shape.PutOutput = a_move _ _ (inl refl) no_move
    shape_safe shape.Halt = a_move _ _ (inl refl) no_move
    shape_safe shape.ReadResult = sets_a _
    shape_safe shape.SetResult = a_move _ _ (inl refl) no_move
    shape_safe shape.ExtendByte = sets_a _

pub shapes_calm : SaidIsSound → SaidIsBounded → ShapesAreCalm
shapes_calm sound bounded w d frame q at t wanted c o h =
    let g = general_set d.registers in
    rows_calm sound bounded w d (is_idle 255 g) (shape_moves frame q at) t wanted c
    (record { row = h.row; instance = h.instance; effects = h.effects; marks = h.marks; does = h.does }) (λ r e. and_left (is_flag_of 255 r.to) _ e)
    (record {
      each = safe_at wanted (shape_moves frame q at) (shape_safe wanted frame (general_bits d.registers) at o.a q);
      jump = (shape_simple frame (general_bits d.registers) at o.a q).jump;
    })

-- a transfer of a body sets no program counter

jump_kept : (w : ℕ) (g : Goal) (t : Tree) → sets_by (same_cell Pc) g ≡ false → jump_in_form w g t ≡ t
jump_kept w (ToCell (Hard n)) t e = refl
jump_kept w (ToCell (Temp n)) t e = refl
jump_kept w (ToCell (Flag n)) t e = refl
jump_kept w (ToCell Pc) t e = let k : true ≡ false = e in cc
jump_kept w (ToCell Input) t e = refl
jump_kept w (ToCell Output) t e = refl
jump_kept w (ToCell Halt) t e = refl
jump_kept w (ToCell (RegisterHole n)) t e = refl
jump_kept w (ToMemory d a) t e = refl

neither : (a b : Bool) → (a || b) ≡ false → (a ≡ false) × (b ≡ false)
neither true b e = let k : true ≡ false = e in cc
neither false b e = (refl, e)

jumps_kept : (w : ℕ) (ms : List Move) → some_set (same_cell Pc) ms ≡ false → with_normal_jump w ms ≡ ms
jumps_kept w [] e = refl
jumps_kept w (m ∷ ms) e =
    let k = neither (sets_by (same_cell Pc) m.to) (some_set (same_cell Pc) ms) e in
    ap (λ (t : Tree). record { to = m.to; value = t } ∷ with_normal_jump w ms) (jump_kept w m.to m.value k.0)
    ∙ ap (λ (xs : List Move). m ∷ xs) (jumps_kept w ms k.1)

pub bodies_calm : SaidIsSound → SaidIsBounded → BodiesAreCalm
bodies_calm sound bounded w d frame q at t wanted c o h e =
    let es = shape_moves frame q at in
    let m = made_of w d frame q at t sound bounded c h in
    let free = sets_equal d.word _ es t.what m (same_cell Pc) (λ n. refl) ∙ body_sets frame (general_bits d.registers) at o.a q e in
    subst (IsCalm d.word wanted) (jumps_kept d.word t.what free) (shapes_calm sound bounded w d frame q at t wanted c o h)
