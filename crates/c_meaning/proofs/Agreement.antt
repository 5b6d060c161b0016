-- Operator for operator, the value of a constant is what a run gives.
use Rattle.std.proofs.Common.{◌≡◌, ℕ, zero, suc, ◌+◌, ◌-◌, ◌*◌, ◌%◌, ◌^◌, ◌<◌, ◌≤◌, ◌==◌, nat_lt, nat_le, not, Bool, true, false, ◌&&◌, cond, if◌then◌else◌, Option, Some, None, refl, sym, ap, ◌∙◌, arith, ℤ, pos, negsuc, neg_ℤ, ◌+ℤ◌, ◌-ℤ◌, ◌*ℤ◌, int_lt, int_le}
use Rattle.std.proofs.lemmas.Bool.Decides.{nat_tests}
use Rattle.std.proofs.lemmas.Int.{ints}
use Rattle.std.proofs.lemmas.Nat.{pow_pos, pow-add}
use Rattle.std.proofs.Math.Nat.{mul-le-mul_left, lt_of_mul-lt-mul_right}
use Rattle.rtl_word.specs.Words.{IsWordSize, word_add, word_sub, word_neg, word_mul, word_signed, word_shl}
use Rattle.rtl_word.proofs.Below.{by_size}
use Rattle.c_tree.specs.declared.types.CType.{CType}
use Rattle.c_tree.specs.declared.types.CType.TheVariants as type
use Rattle.c_tree.specs.declared.syntax.Arithmetic.TheVariants as arithmetic
use Rattle.c_tree.specs.declared.syntax.BinaryOperator.{BinaryOperator}
use Rattle.c_tree.specs.declared.syntax.BinaryOperator.TheVariants as binary
use Rattle.c_tree.specs.declared.syntax.UnaryOperator.TheVariants as unary
use Rattle.c_constants.specs.Operators as constants
use Rattle.c_constants.specs.Operators.{biased, sum_fits, difference_fits, product_fits, same_sign, is_negative, shift_fits, given_if, one_if}
use Rattle.c_meaning.specs.Operators.{Outcome, gives, undefined, Sort, computes, compares, logical, sort_of, is_int, or_act, shifted, of_words, apply, calculate}
use Rattle.c_meaning.specs.Agreement.{OperatorsAgree, BinaryAgree, UnaryAgree, ConversionsAgree, value_of, evaluated}

-- ---- what fits in int

sum_is : (w x y : ℕ) → IsWordSize w → x < 2 ^ w → y < 2 ^ w → sum_fits w x y ≡ is_int w (word_signed w x +ℤ word_signed w y)
sum_is w x y z = by_size (λ n. x < 2 ^ n → y < 2 ^ n → sum_fits n x y ≡ is_int n (word_signed n x +ℤ word_signed n y)) (λ h k. grind (arith, nat_tests, ints, h, k)) (λ h k. grind (arith, nat_tests, ints, h, k)) w z

difference_is : (w x y : ℕ) → IsWordSize w → x < 2 ^ w → y < 2 ^ w → difference_fits w x y ≡ is_int w (word_signed w x -ℤ word_signed w y)
difference_is w x y z = by_size (λ n. x < 2 ^ n → y < 2 ^ n → difference_fits n x y ≡ is_int n (word_signed n x -ℤ word_signed n y)) (λ h k. grind (arith, nat_tests, ints, h, k)) (λ h k. grind (arith, nat_tests, ints, h, k)) w z

less_is : (w x y : ℕ) → IsWordSize w → x < 2 ^ w → y < 2 ^ w → nat_lt (biased w x) (biased w y) ≡ int_lt (word_signed w x) (word_signed w y)
less_is w x y z = by_size (λ n. x < 2 ^ n → y < 2 ^ n → nat_lt (biased n x) (biased n y) ≡ int_lt (word_signed n x) (word_signed n y)) (λ h k. grind (arith, nat_tests, ints, h, k)) (λ h k. grind (arith, nat_tests, ints, h, k)) w z

at_most_is : (w x y : ℕ) → IsWordSize w → x < 2 ^ w → y < 2 ^ w → nat_le (biased w x) (biased w y) ≡ int_le (word_signed w x) (word_signed w y)
at_most_is w x y z = by_size (λ n. x < 2 ^ n → y < 2 ^ n → nat_le (biased n x) (biased n y) ≡ int_le (word_signed n x) (word_signed n y)) (λ h k. grind (arith, nat_tests, ints, h, k)) (λ h k. grind (arith, nat_tests, ints, h, k)) w z

abbrev in_range : ℕ → ℤ → Bool
in_range h (pos n) = nat_lt n h
in_range h (negsuc n) = nat_lt n h

range_is : (w : ℕ) (z : ℤ) → in_range (2 ^ (w - 1)) z ≡ is_int w z
range_is w (pos n) = refl
range_is w (negsuc n) = refl

at_zero : (h : ℕ) → 0 < h → nat_le 0 h ≡ nat_lt 0 h
at_zero h k = grind (arith, nat_tests, k)

-- a product that is negative or 0
minus_fits : (h p : ℕ) → 0 < h → nat_le p h ≡ in_range h (neg_ℤ (pos p))
minus_fits h zero k = at_zero h k
minus_fits h (suc p) k = grind (arith, nat_tests)

abbrev fits : ℕ → Bool → Bool → ℕ → Bool
fits h a b p = if same_sign a b then nat_lt p h else nat_le p h

abbrev size_of : ℕ → Bool → ℕ → ℕ
size_of t negative x = if negative then t - x else x

abbrev reading : ℕ → Bool → ℕ → ℤ
reading t negative x = cond (not negative) (pos x) (negsuc (t - suc x))

above : (t x : ℕ) → x < t → suc (t - suc x) ≡ t - x
above t x l = omega (arith, l)

-- magnitudes multiply, and signs
product_by : (h t x y : ℕ) (a b : Bool) → 0 < h → x < t → y < t
    → fits h a b (size_of t a x * size_of t b y) ≡ in_range h (reading t a x *ℤ reading t b y)
product_by h t x y false false k l m = refl
product_by h t x y false true k l m = minus_fits h (x * (t - y)) k ∙ ap (λ n. in_range h (neg_ℤ (pos (x * n)))) (sym (above t y m))
product_by h t x y true false k l m = minus_fits h ((t - x) * y) k ∙ ap (λ n. in_range h (neg_ℤ (pos (n * y)))) (sym (above t x l))
product_by h t x y true true k l m = ap (λ n. nat_lt (n * (t - y)) h) (sym (above t x l)) ∙ ap (λ n. nat_lt (suc (t - suc x) * n) h) (sym (above t y m))

sign_is : (w x : ℕ) → nat_lt x (2 ^ (w - 1)) ≡ not (is_negative w x)
sign_is w x = grind (arith, nat_tests)

reading_is : (w x : ℕ) → reading (2 ^ w) (is_negative w x) x ≡ word_signed w x
reading_is w x = ap (λ b. cond b (pos x) (negsuc (2 ^ w - suc x))) (sym (sign_is w x))

product_is : (w x y : ℕ) → x < 2 ^ w → y < 2 ^ w → product_fits w x y ≡ is_int w (word_signed w x *ℤ word_signed w y)
product_is w x y l m =
    product_by (2 ^ (w - 1)) (2 ^ w) x y (is_negative w x) (is_negative w y) (pow_pos (w - 1)) l m
    ∙ (range_is w (reading (2 ^ w) (is_negative w x) x *ℤ reading (2 ^ w) (is_negative w y) y)
    ∙ (ap (λ z. is_int w (z *ℤ reading (2 ^ w) (is_negative w y) y)) (reading_is w x) ∙ ap (λ z. is_int w (word_signed w x *ℤ z)) (reading_is w y)))

-- ---- shifts to the left

same_test : (a b c d : ℕ) → (a < b → c < d) → (c < d → a < b) → nat_lt a b ≡ nat_lt c d
same_test a b c d f g = grind (arith, nat_tests, f, g)

grown : (p x k : ℕ) → 0 < p → x < k → x * p < k * p
grown p x k l h = let more : p * suc x ≤ p * k = mul-le-mul_left p h in omega (arith, more)

scaled : (x k p : ℕ) → 0 < p → nat_lt x k ≡ nat_lt (x * p) (k * p)
scaled x k p l = same_test x k (x * p) (k * p) (grown p x k l) (lt_of_mul-lt-mul_right p)

parted : (w y : ℕ) → y < w → 2 ^ (w - 1 - y) * 2 ^ y ≡ 2 ^ (w - 1)
parted w y h = let total : w - 1 - y + y ≡ w - 1 = omega (arith, h) in sym (pow-add 2 (w - 1 - y) y) ∙ ap (λ n. 2 ^ n) total

under : (a b : ℕ) → nat_lt a b ≡ true → a < b
under a b e = grind (arith, nat_tests, e)

room : (w x y : ℕ) → nat_lt y w ≡ true → nat_lt x (2 ^ (w - 1 - y)) ≡ nat_lt (x * 2 ^ y) (2 ^ (w - 1))
room w x y e = scaled x (2 ^ (w - 1 - y)) (2 ^ y) (pow_pos y) ∙ ap (λ n. nat_lt (x * 2 ^ y) n) (parted w y (under y w e))

whole : (w m : ℕ) → IsWordSize w → nat_lt m (2 ^ (w - 1)) ≡ true → m % 2 ^ w ≡ m
whole w m z = by_size (λ n. nat_lt m (2 ^ (n - 1)) ≡ true → m % 2 ^ n ≡ m) (λ e. grind (arith, nat_tests, e)) (λ e. grind (arith, nat_tests, e)) w z

shift_in : (d : Bool) (v m : ℕ) → (d ≡ true → m ≡ v) → (if d then Some m else None) ≡ value_of (if d then gives v else undefined 4)
shift_in true v m k = ap Some (k refl)
shift_in false v m k = refl

shift_by : (b c d : Bool) (v m : ℕ) → (b ≡ true → c ≡ d) → (d ≡ true → m ≡ v)
    → (if b && c then cond b (Some m) None else None) ≡ value_of (if b then (if d then gives v else undefined 4) else undefined 3)
shift_by false c d v m e k = refl
shift_by true c d v m e k = ap (λ z. if z then Some m else None) (e refl) ∙ shift_in d v m k

shift_is : (w x y : ℕ) → IsWordSize w → (if shift_fits w x y then word_shl w x y else None) ≡ value_of (shifted w x y)
shift_is w x y z = shift_by (nat_lt y w) (nat_lt x (2 ^ (w - 1 - y))) (nat_lt (x * 2 ^ y) (2 ^ (w - 1))) (x * 2 ^ y) (x * 2 ^ y % 2 ^ w) (room w x y) (whole w (x * 2 ^ y) z)

-- ---- the forms of an answer

both_words : (w x y : ℕ) → x < 2 ^ w → y < 2 ^ w → (nat_lt x (2 ^ w) && nat_lt y (2 ^ w)) ≡ true
both_words w x y h k = grind (arith, nat_tests, h, k)

with_words : (w x y : ℕ) (r : Outcome) → x < 2 ^ w → y < 2 ^ w → value_of r ≡ value_of (of_words w x y r)
with_words w x y r h k = ap (λ b. value_of (if b then r else undefined 0)) (sym (both_words w x y h k))

value_if : (b : Bool) (v n : ℕ) → given_if b v ≡ value_of (if b then gives v else undefined n)
value_if true v n = refl
value_if false v n = refl

value_act : (m : Option ℕ) (n : ℕ) → m ≡ value_of (or_act n m)
value_act None n = refl
value_act (Some v) n = refl

value_one : (b : Bool) → one_if b ≡ Some (cond b 1 0)
value_one true = refl
value_one false = refl

-- ---- two operands

in_int_is : (w : ℕ) (o : BinaryOperator) (x y : ℕ) → IsWordSize w → x < 2 ^ w → y < 2 ^ w → constants.on_signed w o x y ≡ value_of (evaluated w type.Int (sort_of o) x y)
in_int_is w binary.Add x y z h k = ap (λ b. given_if b (word_add w x y)) (sum_is w x y z h k) ∙ (value_if _ _ 1 ∙ with_words w x y _ h k)
in_int_is w binary.Subtract x y z h k = ap (λ b. given_if b (word_sub w x y)) (difference_is w x y z h k) ∙ (value_if _ _ 1 ∙ with_words w x y _ h k)
in_int_is w binary.Multiply x y z h k = ap (λ b. given_if b (word_mul w x y)) (product_is w x y h k) ∙ (value_if _ _ 1 ∙ with_words w x y _ h k)
in_int_is w binary.Divide x y z h k = value_act _ 2 ∙ with_words w x y _ h k
in_int_is w binary.Remainder x y z h k = value_act _ 2 ∙ with_words w x y _ h k
in_int_is w binary.And x y z h k = with_words w x y _ h k
in_int_is w binary.Or x y z h k = with_words w x y _ h k
in_int_is w binary.Xor x y z h k = with_words w x y _ h k
in_int_is w binary.ShiftLeft x y z h k = shift_is w x y z ∙ with_words w x y _ h k
in_int_is w binary.ShiftRight x y z h k = value_act _ 3 ∙ with_words w x y _ h k
in_int_is w binary.Equal x y z h k = value_one _ ∙ with_words w x y _ h k
in_int_is w binary.NotEqual x y z h k = value_one _ ∙ with_words w x y _ h k
in_int_is w binary.Less x y z h k = value_one _ ∙ (ap (λ b. Some (cond b 1 0)) (less_is w x y z h k) ∙ with_words w x y _ h k)
in_int_is w binary.Greater x y z h k = value_one _ ∙ (ap (λ b. Some (cond b 1 0)) (less_is w y x z k h) ∙ with_words w x y _ h k)
in_int_is w binary.LessEqual x y z h k = value_one _ ∙ (ap (λ b. Some (cond b 1 0)) (at_most_is w x y z h k) ∙ with_words w x y _ h k)
in_int_is w binary.GreaterEqual x y z h k = value_one _ ∙ (ap (λ b. Some (cond b 1 0)) (at_most_is w y x z k h) ∙ with_words w x y _ h k)
in_int_is w binary.LogicalOr x y z h k = refl
in_int_is w binary.LogicalAnd x y z h k = refl

in_unsigned_is : (w : ℕ) (o : BinaryOperator) (x y : ℕ) → x < 2 ^ w → y < 2 ^ w → constants.on_unsigned w o x y ≡ value_of (evaluated w type.Unsigned (sort_of o) x y)
in_unsigned_is w binary.Add x y h k = with_words w x y _ h k
in_unsigned_is w binary.Subtract x y h k = with_words w x y _ h k
in_unsigned_is w binary.Multiply x y h k = with_words w x y _ h k
in_unsigned_is w binary.Divide x y h k = value_act _ 2 ∙ with_words w x y _ h k
in_unsigned_is w binary.Remainder x y h k = value_act _ 2 ∙ with_words w x y _ h k
in_unsigned_is w binary.And x y h k = with_words w x y _ h k
in_unsigned_is w binary.Or x y h k = with_words w x y _ h k
in_unsigned_is w binary.Xor x y h k = with_words w x y _ h k
in_unsigned_is w binary.ShiftLeft x y h k = value_act _ 3 ∙ with_words w x y _ h k
in_unsigned_is w binary.ShiftRight x y h k = value_act _ 3 ∙ with_words w x y _ h k
in_unsigned_is w binary.Equal x y h k = value_one _ ∙ with_words w x y _ h k
in_unsigned_is w binary.NotEqual x y h k = value_one _ ∙ with_words w x y _ h k
in_unsigned_is w binary.Less x y h k = value_one _ ∙ with_words w x y _ h k
in_unsigned_is w binary.Greater x y h k = value_one _ ∙ with_words w x y _ h k
in_unsigned_is w binary.LessEqual x y h k = value_one _ ∙ with_words w x y _ h k
in_unsigned_is w binary.GreaterEqual x y h k = value_one _ ∙ with_words w x y _ h k
in_unsigned_is w binary.LogicalOr x y h k = refl
in_unsigned_is w binary.LogicalAnd x y h k = refl

-- what isn't unsigned is computed with as an int
as_schar : (w : ℕ) (s : Sort) (x y : ℕ) → evaluated w type.Int s x y ≡ evaluated w type.Schar s x y
as_schar w (computes o) x y = refl
as_schar w (compares r u) x y = refl
as_schar w (logical b) x y = refl

as_uchar : (w : ℕ) (s : Sort) (x y : ℕ) → evaluated w type.Int s x y ≡ evaluated w type.Uchar s x y
as_uchar w (computes o) x y = refl
as_uchar w (compares r u) x y = refl
as_uchar w (logical b) x y = refl

as_void : (w : ℕ) (s : Sort) (x y : ℕ) → evaluated w type.Int s x y ≡ evaluated w type.Void s x y
as_void w (computes o) x y = refl
as_void w (compares r u) x y = refl
as_void w (logical b) x y = refl

binary_agree : BinaryAgree
binary_agree w type.Unsigned o x y z h k = in_unsigned_is w o x y h k
binary_agree w type.Int o x y z h k = in_int_is w o x y z h k
binary_agree w type.Schar o x y z h k = in_int_is w o x y z h k ∙ ap value_of (as_schar w (sort_of o) x y)
binary_agree w type.Uchar o x y z h k = in_int_is w o x y z h k ∙ ap value_of (as_uchar w (sort_of o) x y)
binary_agree w type.Void o x y z h k = in_int_is w o x y z h k ∙ ap value_of (as_void w (sort_of o) x y)

-- ---- one operand

least_is : (w x : ℕ) → IsWordSize w → x < 2 ^ w → not (x == 2 ^ (w - 1)) ≡ is_int w (word_signed w 0 -ℤ word_signed w x)
least_is w x z = by_size (λ n. x < 2 ^ n → not (x == 2 ^ (n - 1)) ≡ is_int n (word_signed n 0 -ℤ word_signed n x)) (λ h. grind (arith, nat_tests, ints, h)) (λ h. grind (arith, nat_tests, ints, h)) w z

minus_is : (w x : ℕ) → word_neg w x ≡ word_sub w 0 x
minus_is w x = let e : 2 ^ w - x ≡ 0 + (2 ^ w - x) = omega arith in ap (λ n. n % 2 ^ w) e

negated_is : (w x : ℕ) → IsWordSize w → x < 2 ^ w → constants.negated w type.Int x ≡ value_of (calculate w type.Int arithmetic.Subtract 0 x)
negated_is w x z h = ap (λ b. given_if b (word_neg w x)) (least_is w x z h)
    ∙ (ap (given_if (is_int w (word_signed w 0 -ℤ word_signed w x))) (minus_is w x) ∙ (value_if _ _ 1 ∙ with_words w 0 x _ (pow_pos w) h))

negation_agrees : (w : ℕ) (t : CType) (x : ℕ) → IsWordSize w → x < 2 ^ w → constants.negated w t x ≡ value_of (apply w t unary.Minus x)
negation_agrees w type.Unsigned x z h = refl
negation_agrees w type.Int x z h = negated_is w x z h
negation_agrees w type.Schar x z h = negated_is w x z h
negation_agrees w type.Uchar x z h = negated_is w x z h
negation_agrees w type.Void x z h = negated_is w x z h

unary_agree : UnaryAgree
unary_agree w t unary.Plus x z h = refl
unary_agree w t unary.Minus x z h = negation_agrees w t x z h
unary_agree w t unary.Complement x z h = refl
unary_agree w t unary.Not x z h = refl

is_word : (w x : ℕ) → IsWordSize w → x < 2 ^ w → x ≡ x % 2 ^ w
is_word w x z = by_size (λ n. x < 2 ^ n → x ≡ x % 2 ^ n) (λ h. omega (arith, h)) (λ h. omega (arith, h)) w z

conversions_agree : ConversionsAgree
conversions_agree w type.Schar x z h = refl
conversions_agree w type.Uchar x z h = refl
conversions_agree w type.Int x z h = is_word w x z h
conversions_agree w type.Unsigned x z h = is_word w x z h
conversions_agree w type.Void x z h = is_word w x z h

pub operators_agree : OperatorsAgree
operators_agree = record { binary = binary_agree; unary = unary_agree; conversions = conversions_agree }
