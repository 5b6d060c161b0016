-- The shapes of trees that the rules ask for.
use Rattle.std.specs.Prelude.{◌≡◌, Bool, false, ◌==◌}
use Rattle.rtl_word.specs.declared.Rel.{Rel}
use Rattle.rtl_tree.specs.Trees.{Tree, Number, Load, Unary, Binary}
use Rattle.rtl_tree.specs.declared.expressions.Width.TheVariants.{Byte}
use Rattle.rtl_tree.specs.declared.expressions.UnOp.TheVariants.{Test}
use Rattle.rtl_tree.specs.declared.expressions.BinOp.TheVariants.{Sub, And, Cmp, Pair}

abbrev pub IsBinary : Tree → Type 0
IsBinary (Binary o a b) = Unit {0}
IsBinary _ = ⊥

abbrev pub IsUnary : Tree → Type 0
IsUnary (Unary o a) = Unit {0}
IsUnary _ = ⊥

abbrev pub IsTestOfPair : Tree → Type 0
IsTestOfPair (Unary (Test r) (Binary Pair a b)) = Unit {0}
IsTestOfPair _ = ⊥

abbrev pub IsByteRead : Tree → Type 0
IsByteRead (Load Byte a) = Unit {0}
IsByteRead _ = ⊥

-- a number is taken from 0
abbrev pub IsFromZero : Tree → Type 0
IsFromZero (Binary Sub (Number c) a) = c ≡ 0
IsFromZero _ = ⊥

-- `a & 255`
abbrev pub is_low_byte : Tree → Bool
is_low_byte (Binary And a (Number c)) = c == 255
is_low_byte _ = false

abbrev pub right_of : Tree → Tree
right_of (Binary o a b) = b
right_of t = t

abbrev pub operand_of : Tree → Tree
operand_of (Unary o a) = a
operand_of t = t

abbrev pub compared : Rel → Tree → Tree
compared r (Unary o (Binary p a b)) = Binary (Cmp r) a b
compared r t = t
