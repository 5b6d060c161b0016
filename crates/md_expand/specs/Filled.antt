-- Assignments of the program and those of texts.
use Rattle.std.specs.Prelude.{◌≡◌, ℕ, List, [], ◌∷◌, Option, Some, None}
use Rattle.rtl_tree.specs.declared.cells.Cell.TheVariants.{Hole}
use Rattle.rtl_tree.specs.declared.expressions.Width.{Width}
use Rattle.rtl_tree.specs.Trees.{Tree}
use Rattle.rtl_tree.specs.Moves.{Goal, ToCell, ToMemory, Move}
use Rattle.md_expand.specs.Like.{IsLike}
use Rattle.md_expand.specs.declared.moves.Filled.{Filled}

-- places that are equal but for the numbers of their holes
pub data IsLikeGoal : Goal → Goal → Type 0 where
  same_goal : (g : Goal) → IsLikeGoal g g
  registers : (m n : ℕ) → IsLikeGoal (ToCell (Hole m)) (ToCell (Hole n))
  stores : (w : Width) (a b : Tree) → IsLike a b → IsLikeGoal (ToMemory w a) (ToMemory w b)

-- the number of the register hole that a place is
abbrev pub hole_of_goal : Goal → Option ℕ
hole_of_goal (ToCell (Hole n)) = Some n
hole_of_goal g = None

abbrev pub assign_of : Filled → Move
assign_of f = f.assign

-- the assignment stands for a move: it is like it, equal to it where the holes are few, and knows the number of the hole that is assigned
pub record IsFilled (few : Type 0) (m : Move) (f : Filled) : Type 0 where
  pub like_to : IsLikeGoal m.to f.assign.to
  pub like_value : IsLike m.value f.assign.value
  pub same : few → f.assign ≡ m
  pub register : f.register ≡ hole_of_goal m.to

abbrev pub BothFilled : Type 0 → Option Move → Option Filled → Type 0
BothFilled few None None = Unit {0}
BothFilled few (Some m) (Some f) = IsFilled few m f
BothFilled few _ _ = ⊥

abbrev pub AllFilled : Type 0 → List Move → List Filled → Type 0
AllFilled few [] [] = Unit {0}
AllFilled few (m ∷ ms) (f ∷ fs) = IsFilled few m f × AllFilled few ms fs
AllFilled few _ _ = ⊥

abbrev pub BothAllFilled : Type 0 → Option (List Move) → Option (List Filled) → Type 0
BothAllFilled few None None = Unit {0}
BothAllFilled few (Some ms) (Some fs) = AllFilled few ms fs
BothAllFilled few _ _ = ⊥
