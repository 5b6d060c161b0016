-- What an operator gives of words of w bits, where the act is defined (C11 6.5). A word is read by its operand's type.
use Rattle.std.specs.Prelude.{ℕ, ◌+◌, ◌-◌, ◌*◌, ◌%◌, ◌^◌, ◌==◌, Bool, true, false, ◌&&◌, not, nat_lt, nat_le, if◌then◌else◌, Option, Some, None, bit_and, bit_or, bit_xor}
use Rattle.rtl_word.specs.Words.{word_add, word_sub, word_mul, word_neg, word_not, word_div, word_rem, word_divu, word_remu, word_shl, word_shr, word_shru, word_sxb}
use Rattle.c_tree.specs.declared.types.CType.{CType}
use Rattle.c_tree.specs.declared.types.CType.TheVariants as type
use Rattle.c_tree.specs.declared.syntax.BinaryOperator.{BinaryOperator}
use Rattle.c_tree.specs.declared.syntax.BinaryOperator.TheVariants as binary
use Rattle.c_tree.specs.declared.syntax.UnaryOperator.{UnaryOperator}
use Rattle.c_tree.specs.declared.syntax.UnaryOperator.TheVariants as unary

-- the signed reading of a word, and 2 ^ (w - 1) more
abbrev pub biased : ℕ → ℕ → ℕ
biased w x = (x + 2 ^ (w - 1)) % 2 ^ w

-- the sum, the difference or the product of the signed readings is an int (C11 6.5p5)
abbrev pub sum_fits : ℕ → ℕ → ℕ → Bool
sum_fits w x y = nat_le (2 ^ (w - 1)) (biased w x + biased w y) && nat_lt (biased w x + biased w y) (2 ^ w + 2 ^ (w - 1))

abbrev pub difference_fits : ℕ → ℕ → ℕ → Bool
difference_fits w x y = nat_le (biased w y) (biased w x + 2 ^ (w - 1)) && nat_lt (biased w x) (biased w y + 2 ^ (w - 1))

abbrev pub is_negative : ℕ → ℕ → Bool
is_negative w x = nat_le (2 ^ (w - 1)) x

abbrev pub magnitude : ℕ → ℕ → ℕ
magnitude w x = if is_negative w x then 2 ^ w - x else x

abbrev pub same_sign : Bool → Bool → Bool
same_sign true b = b
same_sign false b = not b

abbrev pub product_fits : ℕ → ℕ → ℕ → Bool
product_fits w x y = if same_sign (is_negative w x) (is_negative w y)
    then nat_lt (magnitude w x * magnitude w y) (2 ^ (w - 1))
    else nat_le (magnitude w x * magnitude w y) (2 ^ (w - 1))

-- x isn't negative, and x * 2 ^ y is an int (C11 6.5.7)
abbrev pub shift_fits : ℕ → ℕ → ℕ → Bool
shift_fits w x y = nat_lt y w && nat_lt x (2 ^ (w - 1 - y))

abbrev pub given_if : Bool → ℕ → Option ℕ
given_if b v = if b then Some v else None

abbrev pub one_if : Bool → Option ℕ
one_if b = Some (if b then 1 else 0)

-- both operands have this type, but for a shift, whose count may have the other
abbrev pub on_signed : ℕ → BinaryOperator → ℕ → ℕ → Option ℕ
on_signed w binary.Add x y = given_if (sum_fits w x y) (word_add w x y)
on_signed w binary.Subtract x y = given_if (difference_fits w x y) (word_sub w x y)
on_signed w binary.Multiply x y = given_if (product_fits w x y) (word_mul w x y)
on_signed w binary.Divide x y = word_div w x y
on_signed w binary.Remainder x y = word_rem w x y
on_signed w binary.And x y = Some (bit_and x y)
on_signed w binary.Or x y = Some (bit_or x y)
on_signed w binary.Xor x y = Some (bit_xor x y)
on_signed w binary.ShiftLeft x y = if shift_fits w x y then word_shl w x y else None
on_signed w binary.ShiftRight x y = word_shr w x y
on_signed w binary.Equal x y = one_if (x == y)
on_signed w binary.NotEqual x y = one_if (not (x == y))
on_signed w binary.Less x y = one_if (nat_lt (biased w x) (biased w y))
on_signed w binary.Greater x y = one_if (nat_lt (biased w y) (biased w x))
on_signed w binary.LessEqual x y = one_if (nat_le (biased w x) (biased w y))
on_signed w binary.GreaterEqual x y = one_if (nat_le (biased w y) (biased w x))
on_signed w binary.LogicalOr x y = None
on_signed w binary.LogicalAnd x y = None

abbrev pub on_unsigned : ℕ → BinaryOperator → ℕ → ℕ → Option ℕ
on_unsigned w binary.Add x y = Some (word_add w x y)
on_unsigned w binary.Subtract x y = Some (word_sub w x y)
on_unsigned w binary.Multiply x y = Some (word_mul w x y)
on_unsigned w binary.Divide x y = word_divu x y
on_unsigned w binary.Remainder x y = word_remu x y
on_unsigned w binary.And x y = Some (bit_and x y)
on_unsigned w binary.Or x y = Some (bit_or x y)
on_unsigned w binary.Xor x y = Some (bit_xor x y)
on_unsigned w binary.ShiftLeft x y = word_shl w x y
on_unsigned w binary.ShiftRight x y = word_shru w x y
on_unsigned w binary.Equal x y = one_if (x == y)
on_unsigned w binary.NotEqual x y = one_if (not (x == y))
on_unsigned w binary.Less x y = one_if (nat_lt x y)
on_unsigned w binary.Greater x y = one_if (nat_lt y x)
on_unsigned w binary.LessEqual x y = one_if (nat_le x y)
on_unsigned w binary.GreaterEqual x y = one_if (nat_le y x)
on_unsigned w binary.LogicalOr x y = None
on_unsigned w binary.LogicalAnd x y = None

abbrev pub on_two : ℕ → CType → BinaryOperator → ℕ → ℕ → Option ℕ
on_two w type.Unsigned o x y = on_unsigned w o x y
on_two w _ o x y = on_signed w o x y

-- unary minus of the least int has no value in int
abbrev pub negated : ℕ → CType → ℕ → Option ℕ
negated w type.Unsigned x = Some (word_neg w x)
negated w _ x = given_if (not (x == 2 ^ (w - 1))) (word_neg w x)

abbrev pub on_one : ℕ → CType → UnaryOperator → ℕ → Option ℕ
on_one w t unary.Plus x = Some x
on_one w t unary.Minus x = negated w t x
on_one w t unary.Complement x = Some (word_not w x)
on_one w t unary.Not x = one_if (x == 0)

-- a word as one of this type (C11 6.3.1.3): modulo, or wrapped
abbrev pub as_type : ℕ → CType → ℕ → ℕ
as_type w type.Schar x = word_sxb w x
as_type w type.Uchar x = x % 256
as_type w _ x = x
