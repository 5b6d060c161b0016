-- Each part of a row's assignment stands where it may once the holes are filled, and no two go to one cell.
use Rattle.std.proofs.Common.{◌≡◌, ℕ, suc, nat_le, Bool, true, false, not, ◌&&◌, List, slice_get, Some, None, refl, sym, ap, ◌∙◌}
use Rattle.rtl_tree.specs.declared.cells.Cell.{Cell}
use Rattle.rtl_tree.specs.declared.cells.Cell.TheVariants.{Hard, Temp, Flag, Pc, Input, Output, Halt, Hole as RegisterHole}
use Rattle.rtl_tree.specs.declared.constructs.Construct.{Construct}
use Rattle.rtl_tree.specs.declared.constructs.Construct.TheVariants.{Compared, Jump, Taken, Written}
use Rattle.rtl_tree.specs.Trees.{Tree}
use Rattle.rtl_tree.specs.Moves.{Goal, ToCell, ToMemory, Move}
use Rattle.rtl_tree.specs.Same.{same_cell}
use Rattle.rtl_tree.specs.WellFormed.{is_construct, free_of, free_of_both, free_below, compares_for_flag, jumps_by_counter, takes_for_register, tests_flags, is_shallow, is_store, same_goal_cell, set_apart, IsPlaced}
use Rattle.rtl_tree.proofs.Equality.{same_cell-is, same_cell-own}
use Rattle.rtl_norm.specs.Transfers.{IsMoveFitting, IsGoalFitting}
use Rattle.rtl_norm_value.specs.Effect.{IsMoveFilled, IsGoalFilled}
use Rattle.md_rows.specs.declared.instance.Bound.{Bound}
use Rattle.md_rows.specs.Instances.{filled, filled_cell, filled_goal, filled_move, assigned_register}
use Rattle.md_match.specs.Searches.{goal_tree}
use Rattle.md_filled.specs.Held.{IsHeld}
use Rattle.md_filled.specs.Doing.{IsHeldMove}
use Rattle.md_filled.proofs.Rewriting.{fitting_filled}
use Rattle.row_laws.proofs.Filled.{construct_filled, free_filled, below_filled, tested_filled, depth_filled, none_left, register_goal}

both_same : (a b c d : Bool) → a ≡ c → b ≡ d → a && b ≡ c && d
both_same a b c d e f = ap (λ (x : Bool). x && b) e ∙ ap (λ (x : Bool). c && x) f

module _ (w : ℕ) (b : List Bound) where
  free_both : (k : Construct) (g : Goal) (t : Tree) → IsHeld w b (goal_tree g) → IsHeld w b t → free_of_both k (filled_goal b g) (filled b t) ≡ free_of_both k g t
  free_both k (ToCell c) t i h = free_filled w b k t h
  free_both k (ToMemory d a) t i h = both_same _ _ _ _ (free_filled w b k a i) (free_filled w b k t h)

  shallow : (g : Goal) (t : Tree) → IsHeld w b (goal_tree g) → IsHeld w b t → is_shallow (filled_goal b g) (filled b t) ≡ is_shallow g t
  shallow (ToCell c) t i h = ap (λ (n : ℕ). nat_le n 32) (depth_filled w b t h)
  shallow (ToMemory d a) t i h =
      both_same _ _ _ _ (ap (λ (n : ℕ). nat_le (suc n) 32) (depth_filled w b a i)) (ap (λ (n : ℕ). nat_le n 32) (depth_filled w b t h))

  tests : (g : Goal) (t : Tree) → IsHeld w b (goal_tree g) → IsHeld w b t → tests_flags (filled_goal b g) (filled b t) ≡ tests_flags g t
  tests (ToCell c) t i h = tested_filled w b t h
  tests (ToMemory d a) t i h = both_same _ _ _ _ (tested_filled w b a i) (tested_filled w b t h)

  compares : (g : Goal) (t : Tree) → IsHeld w b (goal_tree g) → IsHeld w b t → compares_for_flag (filled_goal b g) (filled b t) ≡ compares_for_flag g t
  compares (ToCell (Flag n)) t i h = both_same _ _ _ _ (construct_filled w b Compared t h) (below_filled w b Compared t h)
  compares (ToCell (RegisterHole n)) t i h =
      register_goal (λ g. compares_for_flag g (filled b t) ≡ free_of Compared t) n (slice_get b n) i (λ k. free_filled w b Compared t h) (λ k. free_filled w b Compared t h)
  compares (ToCell (Hard n)) t i h = free_filled w b Compared t h
  compares (ToCell (Temp n)) t i h = free_filled w b Compared t h
  compares (ToCell Pc) t i h = free_filled w b Compared t h
  compares (ToCell Input) t i h = free_filled w b Compared t h
  compares (ToCell Output) t i h = free_filled w b Compared t h
  compares (ToCell Halt) t i h = free_filled w b Compared t h
  compares (ToMemory d a) t i h = free_both Compared (ToMemory d a) t i h

  jumps : (g : Goal) (t : Tree) → IsHeld w b (goal_tree g) → IsHeld w b t → jumps_by_counter (filled_goal b g) (filled b t) ≡ jumps_by_counter g t
  jumps (ToCell Pc) t i h = below_filled w b Jump t h
  jumps (ToCell (RegisterHole n)) t i h =
      register_goal (λ g. jumps_by_counter g (filled b t) ≡ free_of Jump t) n (slice_get b n) i (λ k. free_filled w b Jump t h) (λ k. free_filled w b Jump t h)
  jumps (ToCell (Hard n)) t i h = free_filled w b Jump t h
  jumps (ToCell (Temp n)) t i h = free_filled w b Jump t h
  jumps (ToCell (Flag n)) t i h = free_filled w b Jump t h
  jumps (ToCell Input) t i h = free_filled w b Jump t h
  jumps (ToCell Output) t i h = free_filled w b Jump t h
  jumps (ToCell Halt) t i h = free_filled w b Jump t h
  jumps (ToMemory d a) t i h = free_both Jump (ToMemory d a) t i h

  takes : (g : Goal) (t : Tree) → IsHeld w b (goal_tree g) → IsHeld w b t → takes_for_register (filled_goal b g) (filled b t) ≡ takes_for_register g t
  takes (ToCell (Hard n)) t i h = below_filled w b Taken t h
  takes (ToCell (Temp n)) t i h = below_filled w b Taken t h
  takes (ToCell (RegisterHole n)) t i h =
      register_goal (λ g. takes_for_register g (filled b t) ≡ free_below Taken t) n (slice_get b n) i (λ k. below_filled w b Taken t h) (λ k. below_filled w b Taken t h)
  takes (ToCell (Flag n)) t i h = free_filled w b Taken t h
  takes (ToCell Pc) t i h = free_filled w b Taken t h
  takes (ToCell Input) t i h = refl
  takes (ToCell Output) t i h = free_filled w b Taken t h
  takes (ToCell Halt) t i h = free_filled w b Taken t h
  takes (ToMemory d a) t i h = free_both Taken (ToMemory d a) t i h

  pub placed_filled : (m : Move) → IsHeldMove w b m → IsPlaced m → IsPlaced (filled_move b m)
  placed_filled m h p = record {
    shallow = shallow m.to m.value h.place h.value ∙ p.shallow;
    flags = compares m.to m.value h.place h.value ∙ p.flags;
    tests = tests m.to m.value h.place h.value ∙ p.tests;
    jumps = jumps m.to m.value h.place h.value ∙ p.jumps;
    input = takes m.to m.value h.place h.value ∙ p.input;
    output = free_both Written m.to m.value h.place h.value ∙ p.output;
  }

  goal_fits : (g : Goal) → IsHeld w b (goal_tree g) → IsGoalFitting w g → IsGoalFitting w (filled_goal b g)
  goal_fits (ToCell c) i f = tt
  goal_fits (ToMemory d a) i f = fitting_filled w b a i f

  pub fits_filled : (m : Move) → IsHeldMove w b m → IsMoveFitting w m → IsMoveFitting w (filled_move b m)
  fits_filled m h f = (goal_fits m.to h.place f.0, fitting_filled w b m.value h.value f.1)

  goal_left : (g : Goal) → IsHeld w b (goal_tree g) → IsGoalFilled (filled_goal b g)
  goal_left (ToCell c) i = tt
  goal_left (ToMemory d a) i = none_left w b a i

  pub move_left : (m : Move) → IsHeldMove w b m → IsMoveFilled (filled_move b m)
  move_left m h = (goal_left m.to h.place, none_left w b m.value h.value)

  pub stores_filled : (g : Goal) → is_store (filled_goal b g) ≡ is_store g
  stores_filled (ToCell c) = refl
  stores_filled (ToMemory d a) = refl

  -- a cell of a row is a register once it is filled, or it is no register and stays
  data Kind (c : Cell) : Type 0 where
    register : (x : Cell) → assigned_register (ToCell (filled_cell b c)) ≡ Some x → Kind c
    fixed : filled_cell b c ≡ c → assigned_register (ToCell c) ≡ None → Kind c

  record IsAssigned (g : Goal) : Type 0 where
    cell : Cell
    is : assigned_register g ≡ Some cell

  kind_of : (c : Cell) → IsHeld w b (goal_tree (ToCell c)) → Kind c
  kind_of (Hard n) i = register (Hard n) refl
  kind_of (Temp n) i = register (Temp n) refl
  kind_of (RegisterHole n) i =
      let k = register_goal IsAssigned n (slice_get b n) i (λ m. record { cell = Hard m; is = refl }) (λ m. record { cell = Temp m; is = refl }) in
      register k.cell k.is
  kind_of (Flag n) i = fixed refl refl
  kind_of Pc i = fixed refl refl
  kind_of Input i = fixed refl refl
  kind_of Output i = fixed refl refl
  kind_of Halt i = fixed refl refl

  -- no two registers become one
  abbrev pub Differ : Goal → Goal → Type 0
  Differ g h = (x : Cell) → assigned_register (filled_goal b g) ≡ Some x → assigned_register (filled_goal b h) ≡ Some x → ⊥

  clash : (c d : Cell) → Kind c → Kind d → same_cell c d ≡ false → Differ (ToCell c) (ToCell d) → filled_cell b c ≡ filled_cell b d → ⊥
  clash c d (register x p) k e f s = f x p (ap (λ (z : Cell). assigned_register (ToCell z)) (sym s) ∙ p)
  clash c d (fixed u n) (register y q) e f s =
      let z : assigned_register (ToCell c) ≡ Some y =
      ap (λ (z : Cell). assigned_register (ToCell z)) (sym u) ∙ (ap (λ (z : Cell). assigned_register (ToCell z)) s ∙ q) in
      let none : None ≡ Some y = sym n ∙ z in
      cc
  clash c d (fixed u n) (fixed v m) e f s =
      let same : c ≡ d = sym u ∙ (s ∙ v) in
      let own : same_cell c d ≡ true = ap (same_cell c) (sym same) ∙ same_cell-own c in
      let wrong : true ≡ false = sym own ∙ e in
      cc

  goals_apart : (g h : Goal) → IsHeld w b (goal_tree g) → IsHeld w b (goal_tree h) → same_goal_cell g h ≡ false → Differ g h
      → same_goal_cell (filled_goal b g) (filled_goal b h) ≡ false
  goals_apart (ToCell c) (ToCell d) i j e f = by (same_cell (filled_cell b c) (filled_cell b d)) refl
    where
      by : (q : Bool) → same_cell (filled_cell b c) (filled_cell b d) ≡ q → q ≡ false
      by true s = absurd (clash c d (kind_of c i) (kind_of d j) e f (same_cell-is (filled_cell b c) (filled_cell b d) s))
      by false s = refl
  goals_apart (ToCell c) (ToMemory d a) i j e f = refl
  goals_apart (ToMemory d a) h i j e f = refl

  not_false : (q : Bool) → not q ≡ true → q ≡ false
  not_false true e = cc
  not_false false e = refl

  both_true : (p q : Bool) → p && q ≡ true → (p ≡ true) × (q ≡ true)
  both_true true q e = (refl, e)
  both_true false q e = (cc, cc)

  pub apart_filled : (m n : Move) → IsHeldMove w b m → IsHeldMove w b n → set_apart m n ≡ true → Differ m.to n.to → set_apart (filled_move b m) (filled_move b n) ≡ true
  apart_filled m n h k e f =
      let p = both_true (not (same_goal_cell m.to n.to)) (not (is_construct Taken m.value && is_construct Taken n.value)) e in
      let first = ap not (goals_apart m.to n.to h.place k.place (not_false (same_goal_cell m.to n.to) p.0) f) in
      let second = ap not (both_same _ _ _ _ (construct_filled w b Taken m.value h.value) (construct_filled w b Taken n.value k.value)) ∙ p.1 in
      both_same _ _ true true first second
