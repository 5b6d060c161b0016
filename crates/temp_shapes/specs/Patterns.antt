-- The patterns of the shapes that a description may have.
use Rattle.std.specs.Prelude.{ℕ, Bool, true, false, nat_lt}
use Rattle.rtl_tree.specs.declared.expressions.BinOp.{BinOp}
use Rattle.rtl_tree.specs.declared.expressions.BinOp.TheVariants.{Cmp, Pair, When}
use Rattle.md_shapes.specs.declared.patterns.Pattern.{Pattern}
use Rattle.md_shapes.specs.declared.patterns.Pattern.TheVariants.{Operate, Compare, BranchByFlag}

-- an operator of a shape: one that makes a word of two, but no comparison
abbrev pub is_operator : BinOp → Bool
is_operator (Cmp r) = false
is_operator Pair = false
is_operator When = false
is_operator o = true

-- whether the list of the shapes has one of this pattern
abbrev pub is_listed : Pattern → Bool
is_listed (Operate o) = is_operator o
is_listed (Compare j) = nat_lt j 8
is_listed (BranchByFlag r j) = nat_lt j 8
is_listed p = true
