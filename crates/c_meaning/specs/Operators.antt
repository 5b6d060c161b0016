-- What operators give of words of w bits, or which act is undefined (C11 6.5).
use Rattle.std.specs.Prelude.{ℕ, ◌-◌, ◌*◌, ◌%◌, ◌^◌, ◌==◌, Bool, true, false, ◌&&◌, nat_lt, if◌then◌else◌, Option, Some, None, bit_and, bit_or, bit_xor, ℤ, pos, negsuc, ◌+ℤ◌, ◌-ℤ◌, ◌*ℤ◌}
use Rattle.rtl_word.specs.declared.Rel.{Rel}
use Rattle.rtl_word.specs.declared.Rel.TheVariants.{Eq, Ne, Lt, Le, Gt, Ge, Ltu, Leu, Gtu, Geu}
use Rattle.rtl_word.specs.Words.{word_add, word_sub, word_neg, word_mul, word_not, word_signed, word_div, word_divu, word_rem, word_remu, word_shl, word_shr, word_shru, word_sxb, word_rel}
use Rattle.c_tree.specs.declared.types.CType.{CType}
use Rattle.c_tree.specs.declared.types.CType.TheVariants as type
use Rattle.c_tree.specs.declared.syntax.Arithmetic.{Arithmetic}
use Rattle.c_tree.specs.declared.syntax.Arithmetic.TheVariants.{Add, Subtract, Multiply, Divide, Remainder, And, Xor, Or, ShiftLeft, ShiftRight}
use Rattle.c_tree.specs.declared.syntax.BinaryOperator.{BinaryOperator}
use Rattle.c_tree.specs.declared.syntax.BinaryOperator.TheVariants as binary
use Rattle.c_tree.specs.declared.syntax.UnaryOperator.{UnaryOperator}
use Rattle.c_tree.specs.declared.syntax.UnaryOperator.TheVariants as unary
use Rattle.c_tree.specs.declared.syntax.StepOperator.{StepOperator}
use Rattle.c_tree.specs.declared.syntax.StepOperator.TheVariants as step

-- a word, or the number of an undefined act; act 0 is none of C's, and no typed tree comes to it
pub data Outcome : Type 0 where
  gives : ℕ → Outcome
  undefined : ℕ → Outcome

-- ---- types

-- a value as one of this type (C11 6.3.1.3): modulo, or wrapped
abbrev pub as_type : ℕ → CType → ℕ → ℕ
as_type w type.Schar x = word_sxb w x
as_type w type.Uchar x = x % 256
as_type w _ x = x % 2 ^ w

-- the type in which a value of a type is computed with (C11 6.3.1.1p2)
abbrev pub promoted : CType → CType
promoted type.Unsigned = type.Unsigned
promoted _ = type.Int

-- ---- arithmetic

-- whether a number is a value of int
abbrev pub is_int : ℕ → ℤ → Bool
is_int w (pos n) = nat_lt n (2 ^ (w - 1))
is_int w (negsuc n) = nat_lt n (2 ^ (w - 1))

-- ACT U1, no value in int (C11 6.5p5)
abbrev pub if_int : ℕ → ℤ → ℕ → Outcome
if_int w value word = if is_int w value then gives word else undefined 1

abbrev pub or_act : ℕ → Option ℕ → Outcome
or_act what (Some v) = gives v
or_act what None = undefined what

-- ACT U4, the left shift of an int below 0, or with no value in int (C11 6.5.7p4); the count comes first
abbrev pub shifted : ℕ → ℕ → ℕ → Outcome
shifted w x n = if nat_lt n w then (if nat_lt (x * 2 ^ n) (2 ^ (w - 1)) then gives (x * 2 ^ n) else undefined 4) else undefined 3

-- ACT U2, division by 0 or with no quotient in int (C11 6.5.5); ACT U3, a count below 0 or at least w (C11 6.5.7p3)
abbrev pub in_int : ℕ → Arithmetic → ℕ → ℕ → Outcome
in_int w Add x y = if_int w (word_signed w x +ℤ word_signed w y) (word_add w x y)
in_int w Subtract x y = if_int w (word_signed w x -ℤ word_signed w y) (word_sub w x y)
in_int w Multiply x y = if_int w (word_signed w x *ℤ word_signed w y) (word_mul w x y)
in_int w Divide x y = or_act 2 (word_div w x y)
in_int w Remainder x y = or_act 2 (word_rem w x y)
in_int w And x y = gives (bit_and x y)
in_int w Xor x y = gives (bit_xor x y)
in_int w Or x y = gives (bit_or x y)
in_int w ShiftLeft x y = shifted w x y
in_int w ShiftRight x y = or_act 3 (word_shr w x y)

abbrev pub in_unsigned : ℕ → Arithmetic → ℕ → ℕ → Outcome
in_unsigned w Add x y = gives (word_add w x y)
in_unsigned w Subtract x y = gives (word_sub w x y)
in_unsigned w Multiply x y = gives (word_mul w x y)
in_unsigned w Divide x y = or_act 2 (word_divu x y)
in_unsigned w Remainder x y = or_act 2 (word_remu x y)
in_unsigned w And x y = gives (bit_and x y)
in_unsigned w Xor x y = gives (bit_xor x y)
in_unsigned w Or x y = gives (bit_or x y)
in_unsigned w ShiftLeft x y = or_act 3 (word_shl w x y)
in_unsigned w ShiftRight x y = or_act 3 (word_shru w x y)

abbrev pub in_type : ℕ → CType → Arithmetic → ℕ → ℕ → Outcome
in_type w type.Unsigned o x y = in_unsigned w o x y
in_type w _ o x y = in_int w o x y

-- an operand that is no word has no value
abbrev pub of_words : ℕ → ℕ → ℕ → Outcome → Outcome
of_words w x y r = if nat_lt x (2 ^ w) && nat_lt y (2 ^ w) then r else undefined 0

-- of two operands of this type; a shift's count has a type of its own
abbrev pub calculate : ℕ → CType → Arithmetic → ℕ → ℕ → Outcome
calculate w t o x y = of_words w x y (in_type w t o x y)

-- ---- operators between two operands

-- an arithmetic one; a relation, of int and of unsigned operands; or a logical one: true for `&&`, false for `||`
pub data Sort : Type 0 where
  computes : Arithmetic → Sort
  compares : (signed unsigned : Rel) → Sort
  logical : Bool → Sort

abbrev pub sort_of : BinaryOperator → Sort
sort_of binary.LogicalOr = logical false
sort_of binary.LogicalAnd = logical true
sort_of binary.Or = computes Or
sort_of binary.Xor = computes Xor
sort_of binary.And = computes And
sort_of binary.Equal = compares Eq Eq
sort_of binary.NotEqual = compares Ne Ne
sort_of binary.Less = compares Lt Ltu
sort_of binary.Greater = compares Gt Gtu
sort_of binary.LessEqual = compares Le Leu
sort_of binary.GreaterEqual = compares Ge Geu
sort_of binary.ShiftLeft = computes ShiftLeft
sort_of binary.ShiftRight = computes ShiftRight
sort_of binary.Add = computes Add
sort_of binary.Subtract = computes Subtract
sort_of binary.Multiply = computes Multiply
sort_of binary.Divide = computes Divide
sort_of binary.Remainder = computes Remainder

abbrev pub relation_in : CType → Rel → Rel → Rel
relation_in type.Unsigned r u = u
relation_in _ r u = r

-- 1 where the relation holds, else 0 (C11 6.5.8p6)
abbrev pub compare : ℕ → CType → Rel → Rel → ℕ → ℕ → Outcome
compare w t r u x y = of_words w x y (gives (word_rel w (relation_in t r u) x y))

-- ---- operators on one operand

-- `-`: of an int, the difference from 0
abbrev pub negate : ℕ → CType → ℕ → Outcome
negate w type.Unsigned x = gives (word_neg w x)
negate w t x = calculate w t Subtract 0 x

abbrev pub apply : ℕ → CType → UnaryOperator → ℕ → Outcome
apply w t unary.Plus x = gives x
apply w t unary.Minus x = negate w t x
apply w t unary.Complement x = gives (word_not w x)
apply w t unary.Not x = gives (if x == 0 then 1 else 0)

-- `++` and `--` compute in the promoted type (C11 6.5.2.4p2)
abbrev pub step_by : ℕ → CType → StepOperator → ℕ → Outcome
step_by w t step.Increment x = calculate w (promoted t) Add x 1
step_by w t step.Decrement x = calculate w (promoted t) Subtract x 1

-- a compound assignment computes in the right value's type, a shift in the promoted type of the left side (C11 6.5.16.2)
abbrev pub computed_in : Arithmetic → CType → CType → CType
computed_in ShiftLeft left right = promoted left
computed_in ShiftRight left right = promoted left
computed_in _ left right = right
