-- A transfer with registers has no temporary.
use Rattle.std.proofs.Common.{◌≡◌, ℕ, ◌||◌, Bool, true, false, List, [], ◌∷◌, refl}
use Rattle.rtl_tree.specs.Trees.{Tree, Read, Load, Unary, Binary}
use Rattle.rtl_tree.specs.declared.cells.Cell.{Cell}
use Rattle.rtl_tree.specs.declared.cells.Cell.TheVariants.{Temp}
use Rattle.rtl_tree.specs.Moves.{Goal, ToCell, ToMemory, Move}
use Rattle.temp_machine.specs.Cells.{some_cell, some_goal_cell, some_read, sets_by, some_set, is_temporary}
use Rattle.color_renaming.specs.Renaming.{cell_with, tree_with, goal_with, with_registers}
use Rattle.color_renaming.specs.Does.{RenamedIsPlain}

neither : (b c : Bool) → b ≡ false → c ≡ false → (b || c) ≡ false
neither true c e f = e
neither false c e f = f

module _ (r : ℕ → ℕ) where
  cell_plain : (c : Cell) → is_temporary (cell_with r c) ≡ false
  cell_plain (Temp k) = refl
  cell_plain c = refl

  tree_plain : (a : Tree) → some_cell is_temporary (tree_with r a) ≡ false
  tree_plain (Read c) = cell_plain c
  tree_plain (Load d a) = tree_plain a
  tree_plain (Unary o a) = tree_plain a
  tree_plain (Binary o a b) = neither (some_cell is_temporary (tree_with r a)) _ (tree_plain a) (tree_plain b)
  tree_plain a = refl

  goal_plain : (g : Goal) → some_goal_cell is_temporary (goal_with r g) ≡ false
  goal_plain (ToCell c) = refl
  goal_plain (ToMemory d a) = tree_plain a

  set_plain : (g : Goal) → sets_by is_temporary (goal_with r g) ≡ false
  set_plain (ToCell c) = cell_plain c
  set_plain (ToMemory d a) = refl

  none_read : (ms : List Move) → some_read is_temporary (with_registers r ms) ≡ false
  none_read [] = refl
  none_read (m ∷ ms) =
      neither (some_goal_cell is_temporary (goal_with r m.to) || some_cell is_temporary (tree_with r m.value)) _
      (neither (some_goal_cell is_temporary (goal_with r m.to)) _ (goal_plain m.to) (tree_plain m.value)) (none_read ms)

  none_set : (ms : List Move) → some_set is_temporary (with_registers r ms) ≡ false
  none_set [] = refl
  none_set (m ∷ ms) = neither (sets_by is_temporary (goal_with r m.to)) _ (set_plain m.to) (none_set ms)

pub renamed_is_plain : RenamedIsPlain
renamed_is_plain r ms = neither (some_read is_temporary (with_registers r ms)) _ (none_read r ms) (none_set r ms)
