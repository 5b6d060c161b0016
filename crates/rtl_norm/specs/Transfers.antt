-- The normal form of a transfer.
use Rattle.std.specs.Prelude.{ℕ, ◌==◌, cond, List, map}
use Rattle.rtl_tree.specs.Trees.{Tree, Number, Unary, Binary}
use Rattle.rtl_tree.specs.Moves.{Goal, ToCell, ToMemory, Move}
use Rattle.rtl_tree.specs.declared.expressions.Width.TheVariants.{Byte}
use Rattle.rtl_tree.specs.declared.expressions.UnOp.TheVariants.{Sxb}
use Rattle.rtl_tree.specs.declared.expressions.BinOp.TheVariants.{And}
use Rattle.rtl_tree.specs.Sorts.{IsFitting}
use Rattle.rtl_norm.specs.Normal.{norm}

-- the byte rule: B[a] = (sxb b) and B[a] = (b & 255) become B[a] = b
abbrev pub stored_byte : Tree → Tree
stored_byte (Unary Sxb b) = b
stored_byte (Binary And b (Number c)) = cond (c == 255) b (Binary And b (Number c))
stored_byte t = t

abbrev pub norm_goal : ℕ → Goal → Goal
norm_goal w (ToCell c) = ToCell c
norm_goal w (ToMemory d a) = ToMemory d (norm w a)

abbrev pub norm_value : ℕ → Goal → Tree → Tree
norm_value w (ToMemory Byte a) t = stored_byte (norm w t)
norm_value w _ t = norm w t

-- an assignment with its trees in normal form
abbrev pub norm_move : ℕ → Move → Move
norm_move w m = record { to = norm_goal w m.to; value = norm_value w m.to m.value }

-- a transfer in normal form
abbrev pub norm_moves : ℕ → List Move → List Move
norm_moves w ms = map (norm_move w) ms

abbrev pub IsGoalFitting : ℕ → Goal → Type 0
IsGoalFitting w (ToCell c) = Unit {0}
IsGoalFitting w (ToMemory d a) = IsFitting w a

-- the numbers in an assignment are words
abbrev pub IsMoveFitting : ℕ → Move → Type 0
IsMoveFitting w m = IsGoalFitting w m.to × IsFitting w m.value
