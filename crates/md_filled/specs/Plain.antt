-- Trees of rows without holes for numbers.
use Rattle.rtl_tree.specs.Trees.{Tree, Load, Unary, Binary, AnyNumber}

-- no hole for a number stands in a tree
abbrev pub IsPlain : Tree → Type 0
IsPlain (Load d a) = IsPlain a
IsPlain (Unary o a) = IsPlain a
IsPlain (Binary o a b) = IsPlain a × IsPlain b
IsPlain (AnyNumber n) = ⊥
IsPlain _ = Unit {0}
