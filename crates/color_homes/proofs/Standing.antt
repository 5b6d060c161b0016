-- What stands in a filled row stands in its binding.
use Rattle.std.proofs.Common.{◌≡◌, ℕ, Bool, true, false, ◌||◌, List, [], ◌∷◌, map, slice_get, Option, Some, None, All, refl, sym, ap, ◌∙◌}
use Rattle.std.proofs.lemmas.Bool.{eqb-true}
use Rattle.std.proofs.lemmas.List.Elements.{All-head, All-tail}
use Rattle.rtl_tree.specs.declared.cells.Cell.{Cell}
use Rattle.rtl_tree.specs.declared.cells.Cell.TheVariants.{Hard, Temp, Flag, Pc, Input, Output, Halt, Hole as RegisterHole}
use Rattle.rtl_tree.specs.Trees.{Tree, Number, Symbol, CodeLabel, Read, Load, Unary, Binary, NoPair, AnyNumber, AnyName}
use Rattle.rtl_tree.specs.Moves.{Goal, ToCell, ToMemory, Move}
use Rattle.rtl_tree.specs.Same.{same_cell}
use Rattle.md_rows.specs.declared.row.Hole.{Hole}
use Rattle.md_rows.specs.declared.instance.Bound.{Bound}
use Rattle.md_rows.specs.declared.instance.Bound.TheVariants.{Reg, Num, Sym, Label}
use Rattle.md_rows.specs.Instances.{held_by, filled, register_by, filled_goal, filled_move}
use Rattle.md_match.specs.Searches.{goal_tree}
use Rattle.md_covers.specs.Covers.{IsRowTree, IsRowMove}
use Rattle.temp_machine.specs.Cells.{some_cell, some_goal_cell, some_read, sets_by, some_set, mentions}
use Rattle.color_homes.proofs.Lists.{false_true, or_cases}
use Rattle.color_homes.proofs.AtHome.{Holds}

module _ (k : ℕ) (b : List Bound) where
  abbrev is_it : Cell → Bool
  is_it c = same_cell (Temp k) c

  cell_held : (h : ℕ) (c : Cell) → slice_get b h ≡ Some (Reg c) → is_it c ≡ true → Holds k b
  cell_held h (Temp n) e f = record { place = h; is = e ∙ ap (λ (x : ℕ). Some (Reg (Temp x))) (sym (eqb-true k n f)) }
  cell_held h (Hard n) e f = false_true f
  cell_held h (Flag n) e f = false_true f
  cell_held h Pc e f = false_true f
  cell_held h Input e f = false_true f
  cell_held h Output e f = false_true f
  cell_held h Halt e f = false_true f
  cell_held h (RegisterHole n) e f = false_true f

  leaf_held : (hole : Tree) (h : ℕ) (o : Option Bound) → some_cell is_it hole ≡ false → slice_get b h ≡ o → some_cell is_it (held_by hole o) ≡ true → Holds k b
  leaf_held hole h (Some (Reg c)) none e f = cell_held h c e f
  leaf_held hole h (Some (Num n)) none e f = false_true f
  leaf_held hole h (Some (Sym n)) none e f = false_true f
  leaf_held hole h (Some (Label l)) none e f = false_true f
  leaf_held hole h None none e f = false_true (sym none ∙ f)

  tree_held : (holes : List Hole) (t : Tree) → IsRowTree holes t → some_cell is_it (filled b t) ≡ true → Holds k b
  tree_held holes (Number n) i f = false_true f
  tree_held holes (Symbol n) i f = absurd i
  tree_held holes (CodeLabel l) i f = absurd i
  tree_held holes (Read (RegisterHole h)) i f = leaf_held (Read (RegisterHole h)) h (slice_get b h) refl refl f
  tree_held holes (Read (Hard n)) i f = false_true f
  tree_held holes (Read (Temp n)) i f = absurd i
  tree_held holes (Read (Flag n)) i f = false_true f
  tree_held holes (Read Pc) i f = false_true f
  tree_held holes (Read Input) i f = false_true f
  tree_held holes (Read Output) i f = false_true f
  tree_held holes (Read Halt) i f = false_true f
  tree_held holes (Load d a) i f = tree_held holes a i f
  tree_held holes (Unary o a) i f = tree_held holes a i f
  tree_held holes (Binary o x y) i f =
      or_cases (some_cell is_it (filled b x)) (some_cell is_it (filled b y)) f (λ g. tree_held holes x i.0 g) (λ g. tree_held holes y i.1 g)
  tree_held holes NoPair i f = false_true f
  tree_held holes (AnyNumber h) i f = leaf_held (AnyNumber h) h (slice_get b h) refl refl f
  tree_held holes (AnyName h) i f = leaf_held (AnyName h) h (slice_get b h) refl refl f

  place_held : (h : ℕ) (o : Option Bound) → slice_get b h ≡ o → is_it (register_by (RegisterHole h) o) ≡ true → Holds k b
  place_held h (Some (Reg c)) e f = cell_held h c e f
  place_held h (Some (Num n)) e f = false_true f
  place_held h (Some (Sym n)) e f = false_true f
  place_held h (Some (Label l)) e f = false_true f
  place_held h None e f = false_true f

  goal_held : (holes : List Hole) (g : Goal) → IsRowTree holes (goal_tree g) → sets_by is_it (filled_goal b g) ≡ true → Holds k b
  goal_held holes (ToCell (RegisterHole h)) i f = place_held h (slice_get b h) refl f
  goal_held holes (ToCell (Hard n)) i f = false_true f
  goal_held holes (ToCell (Temp n)) i f = absurd i
  goal_held holes (ToCell (Flag n)) i f = false_true f
  goal_held holes (ToCell Pc) i f = false_true f
  goal_held holes (ToCell Input) i f = false_true f
  goal_held holes (ToCell Output) i f = false_true f
  goal_held holes (ToCell Halt) i f = false_true f
  goal_held holes (ToMemory d a) i f = false_true f

  address_held : (holes : List Hole) (g : Goal) → IsRowTree holes (goal_tree g) → some_goal_cell is_it (filled_goal b g) ≡ true → Holds k b
  address_held holes (ToCell c) i f = false_true f
  address_held holes (ToMemory d a) i f = tree_held holes a i f

  reads_held : (holes : List Hole) (ms : List Move) → All (IsRowMove holes) ms → some_read is_it (map (filled_move b) ms) ≡ true → Holds k b
  reads_held holes [] all f = false_true f
  reads_held holes (m ∷ ms) all f =
      let one = All-head (IsRowMove holes) m ms all in
      or_cases (some_goal_cell is_it (filled_goal b m.to) || some_cell is_it (filled b m.value)) (some_read is_it (map (filled_move b) ms)) f
      (λ g. or_cases (some_goal_cell is_it (filled_goal b m.to)) (some_cell is_it (filled b m.value)) g (λ h. address_held holes m.to one.place h)
      (λ h. tree_held holes m.value one.value h))
      (λ g. reads_held holes ms (All-tail (IsRowMove holes) m ms all) g)

  sets_held : (holes : List Hole) (ms : List Move) → All (IsRowMove holes) ms → some_set is_it (map (filled_move b) ms) ≡ true → Holds k b
  sets_held holes [] all f = false_true f
  sets_held holes (m ∷ ms) all f =
      or_cases (sets_by is_it (filled_goal b m.to)) (some_set is_it (map (filled_move b) ms)) f
      (λ g. goal_held holes m.to (All-head (IsRowMove holes) m ms all).place g) (λ g. sets_held holes ms (All-tail (IsRowMove holes) m ms all) g)

  pub stands_held : (holes : List Hole) (ms : List Move) → All (IsRowMove holes) ms → mentions (same_cell (Temp k)) (map (filled_move b) ms) ≡ true → Holds k b
  stands_held holes ms all f =
      or_cases (some_read is_it (map (filled_move b) ms)) (some_set is_it (map (filled_move b) ms)) f (λ g. reads_held holes ms all g) (λ g. sets_held holes ms all g)
