-- The numbers of a tree, and operators on numbers.
use Rattle.std.specs.Prelude.{ℕ, Bool, true, false, Option, Some, None, bit_and, bit_or, bit_xor}
use Rattle.rtl_word.specs.Words.{word_add, word_sub, word_mul, word_neg, word_not, word_sxb, word_rel, word_div, word_divu, word_rem, word_remu, word_shl, word_shr, word_shru}
use Rattle.rtl_tree.specs.Trees.{Tree, Number, AnyNumber}
use Rattle.rtl_tree.specs.declared.expressions.UnOp.{UnOp}
use Rattle.rtl_tree.specs.declared.expressions.UnOp.TheVariants.{Neg, Not, Sxb, Test}
use Rattle.rtl_tree.specs.declared.expressions.BinOp.{BinOp}
use Rattle.rtl_tree.specs.declared.expressions.BinOp.TheVariants.{Add, Sub, Mul, Div, Divu, Rem, Remu, And, Or, Xor, Shl, Shr, Shru, Cmp, Pair, When}

-- a number, and a number or the hole for one
abbrev pub is_number : Tree → Bool
is_number (Number n) = true
is_number _ = false

abbrev pub is_constant : Tree → Bool
is_constant (Number n) = true
is_constant (AnyNumber n) = true
is_constant _ = false

-- what an operator makes of one number, and of two; nothing where it traps, or makes no number
abbrev pub unary_number : ℕ → UnOp → ℕ → Option ℕ
unary_number w Neg a = Some (word_neg w a)
unary_number w Not a = Some (word_not w a)
unary_number w Sxb a = Some (word_sxb w a)
unary_number w (Test r) a = None

abbrev pub binary_number : ℕ → BinOp → ℕ → ℕ → Option ℕ
binary_number w Add a b = Some (word_add w a b)
binary_number w Sub a b = Some (word_sub w a b)
binary_number w Mul a b = Some (word_mul w a b)
binary_number w Div a b = word_div w a b
binary_number w Divu a b = word_divu a b
binary_number w Rem a b = word_rem w a b
binary_number w Remu a b = word_remu a b
binary_number w And a b = Some (bit_and a b)
binary_number w Or a b = Some (bit_or a b)
binary_number w Xor a b = Some (bit_xor a b)
binary_number w Shl a b = word_shl w a b
binary_number w Shr a b = word_shr w a b
binary_number w Shru a b = word_shru w a b
binary_number w (Cmp r) a b = Some (word_rel w r a b)
binary_number w Pair a b = None
binary_number w When a b = None
