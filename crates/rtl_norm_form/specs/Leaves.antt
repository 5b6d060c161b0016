-- The leaves of trees and assignments.
use Rattle.std.specs.Prelude.{◌≡◌, ℕ, ◌<◌, ◌^◌, ◌⊎◌}
use Rattle.rtl_tree.specs.Trees.{Tree, Number, Read, Load, Unary, Binary}
use Rattle.rtl_tree.specs.Moves.{Goal, ToCell, ToMemory, Move}

-- u is a leaf of the tree
abbrev pub IsLeafOf : Tree → Tree → Type 0
IsLeafOf u (Load d a) = IsLeafOf u a
IsLeafOf u (Unary o a) = IsLeafOf u a
IsLeafOf u (Binary o a b) = IsLeafOf u a ⊎ IsLeafOf u b
IsLeafOf u t = u ≡ t

-- a cell that is assigned counts as a leaf
abbrev pub IsLeafOfGoal : Tree → Goal → Type 0
IsLeafOfGoal u (ToCell c) = u ≡ Read c
IsLeafOfGoal u (ToMemory d a) = IsLeafOf u a

abbrev pub IsLeafOfMove : Tree → Move → Type 0
IsLeafOfMove u m = IsLeafOfGoal u m.to ⊎ IsLeafOf u m.value

-- a number that is a word
abbrev pub IsWord : ℕ → Tree → Type 0
IsWord w (Number n) = n < 2 ^ w
IsWord w t = ⊥
