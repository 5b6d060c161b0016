-- What an operator gives of words is a word, and no act 0.
use Rattle.std.proofs.Common.{◌≡◌, ℕ, ◌-◌, ◌*◌, ◌%◌, ◌^◌, ◌<◌, ◌==◌, nat_lt, Bool, true, false, ◌&&◌, if◌then◌else◌, Option, Some, None, refl, sym, subst, arith, ℤ, ◌+ℤ◌, ◌-ℤ◌, ◌*ℤ◌}
use Rattle.std.proofs.lemmas.Bool.Decides.{nat_tests}
use Rattle.std.proofs.lemmas.Nat.{pow_pos, mod_below, or_lt, xor_lt}
use Rattle.rtl_word.specs.declared.Rel.{Rel}
use Rattle.rtl_word.specs.Words.{IsWordSize, word_add, word_sub, word_mul, word_signed, word_div, word_divu, word_rem, word_remu, word_shl, word_shr, word_shru, word_rel}
use Rattle.rtl_word.proofs.Below.{by_size, word_add-below, word_sub-below, word_mul-below, word_neg-below, word_not-below, bit_and-below, word_sxb-below, word_rel-below, word_div-below, word_rem-below, word_shr-below, word_divu-below, word_remu-below, word_shl-below, word_shru-below}
use Rattle.c_tree.specs.declared.types.CType.{CType}
use Rattle.c_tree.specs.declared.types.CType.TheVariants as type
use Rattle.c_tree.specs.declared.syntax.Arithmetic.{Arithmetic}
use Rattle.c_tree.specs.declared.syntax.Arithmetic.TheVariants as arithmetic
use Rattle.c_tree.specs.declared.syntax.UnaryOperator.{UnaryOperator}
use Rattle.c_tree.specs.declared.syntax.UnaryOperator.TheVariants as unary
use Rattle.c_tree.specs.declared.syntax.StepOperator.{StepOperator}
use Rattle.c_tree.specs.declared.syntax.StepOperator.TheVariants as step
use Rattle.c_meaning.specs.Operators.{Outcome, gives, undefined, as_type, promoted, is_int, if_int, or_act, shifted, in_int, in_unsigned, in_type, of_words, calculate, relation_in, compare, negate, apply, step_by}

abbrev pub Given : ℕ → Outcome → Type 0
Given w (gives v) = v < 2 ^ w
Given w (undefined what) = 0 < what

pub under : (a b : ℕ) → nat_lt a b ≡ true → a < b
under a b e = grind (arith, nat_tests, e)

pub one_below : (w : ℕ) → IsWordSize w → 1 < 2 ^ w
one_below w s = by_size (λ n. 1 < 2 ^ n) (omega arith) (omega arith) w s

pub byte_below : (w x : ℕ) → IsWordSize w → x < 256 → x < 2 ^ w
byte_below w x s h = by_size (λ n. x < 2 ^ n) (omega (arith, h)) (omega (arith, h)) w s

pub rest_below : (w x : ℕ) → IsWordSize w → x % 256 < 2 ^ w
rest_below w x s = byte_below w (x % 256) s (mod_below x 256 (omega arith))

pub as_type_below : (w : ℕ) (t : CType) (x : ℕ) → IsWordSize w → as_type w t x < 2 ^ w
as_type_below w type.Schar x s = word_sxb-below w x s
as_type_below w type.Uchar x s = rest_below w x s
as_type_below w type.Int x s = mod_below x (2 ^ w) (pow_pos w)
as_type_below w type.Unsigned x s = mod_below x (2 ^ w) (pow_pos w)
as_type_below w type.Void x s = mod_below x (2 ^ w) (pow_pos w)

if_int_given : (w : ℕ) (z : ℤ) (v : ℕ) → v < 2 ^ w → Given w (if_int w z v)
if_int_given w z v h = by (is_int w z)
  where
    by : (b : Bool) → Given w (if b then gives v else undefined 1)
    by true = h
    by false = omega arith

or_act_given : (w what : ℕ) → 0 < what → (o : Option ℕ) → ((v : ℕ) → o ≡ Some v → v < 2 ^ w) → Given w (or_act what o)
or_act_given w what p (Some v) f = f v refl
or_act_given w what p None f = p

pub half_below : (w p : ℕ) → IsWordSize w → nat_lt p (2 ^ (w - 1)) ≡ true → p < 2 ^ w
half_below w p s = by_size (λ n. nat_lt p (2 ^ (n - 1)) ≡ true → p < 2 ^ n) (λ e. grind (arith, nat_tests, e)) (λ e. grind (arith, nat_tests, e)) w s

moved_given : (w p : ℕ) → IsWordSize w → (b : Bool) → nat_lt p (2 ^ (w - 1)) ≡ b → Given w (if b then gives p else undefined 4)
moved_given w p s true e = half_below w p s e
moved_given w p s false e = omega arith

shifted_given : (w x n : ℕ) → IsWordSize w → Given w (shifted w x n)
shifted_given w x n s = by (nat_lt n w)
  where
    by : (b : Bool) → Given w (if b then (if nat_lt (x * 2 ^ n) (2 ^ (w - 1)) then gives (x * 2 ^ n) else undefined 4) else undefined 3)
    by true = moved_given w (x * 2 ^ n) s (nat_lt (x * 2 ^ n) (2 ^ (w - 1))) refl
    by false = omega arith

two : 0 < 2
two = omega arith

three : 0 < 3
three = omega arith

int_given : (w : ℕ) (o : Arithmetic) (x y : ℕ) → IsWordSize w → x < 2 ^ w → y < 2 ^ w → Given w (in_int w o x y)
int_given w arithmetic.Add x y s h k = if_int_given w (word_signed w x +ℤ word_signed w y) (word_add w x y) (word_add-below w x y)
int_given w arithmetic.Subtract x y s h k = if_int_given w (word_signed w x -ℤ word_signed w y) (word_sub w x y) (word_sub-below w x y)
int_given w arithmetic.Multiply x y s h k = if_int_given w (word_signed w x *ℤ word_signed w y) (word_mul w x y) (word_mul-below w x y)
int_given w arithmetic.Divide x y s h k = or_act_given w 2 two (word_div w x y) (λ v e. word_div-below w x y v s h k e)
int_given w arithmetic.Remainder x y s h k = or_act_given w 2 two (word_rem w x y) (λ v e. word_rem-below w x y v s h k e)
int_given w arithmetic.And x y s h k = bit_and-below w x y h
int_given w arithmetic.Xor x y s h k = xor_lt w x y h k
int_given w arithmetic.Or x y s h k = or_lt w x y h k
int_given w arithmetic.ShiftLeft x y s h k = shifted_given w x y s
int_given w arithmetic.ShiftRight x y s h k = or_act_given w 3 three (word_shr w x y) (λ v e. word_shr-below w x y v s h e)

unsigned_given : (w : ℕ) (o : Arithmetic) (x y : ℕ) → x < 2 ^ w → y < 2 ^ w → Given w (in_unsigned w o x y)
unsigned_given w arithmetic.Add x y h k = word_add-below w x y
unsigned_given w arithmetic.Subtract x y h k = word_sub-below w x y
unsigned_given w arithmetic.Multiply x y h k = word_mul-below w x y
unsigned_given w arithmetic.Divide x y h k = or_act_given w 2 two (word_divu x y) (λ v e. word_divu-below w x y v h e)
unsigned_given w arithmetic.Remainder x y h k = or_act_given w 2 two (word_remu x y) (λ v e. word_remu-below w x y v h e)
unsigned_given w arithmetic.And x y h k = bit_and-below w x y h
unsigned_given w arithmetic.Xor x y h k = xor_lt w x y h k
unsigned_given w arithmetic.Or x y h k = or_lt w x y h k
unsigned_given w arithmetic.ShiftLeft x y h k = or_act_given w 3 three (word_shl w x y) (λ v e. word_shl-below w x y v e)
unsigned_given w arithmetic.ShiftRight x y h k = or_act_given w 3 three (word_shru w x y) (λ v e. word_shru-below w x y v h e)

type_given : (w : ℕ) (t : CType) (o : Arithmetic) (x y : ℕ) → IsWordSize w → x < 2 ^ w → y < 2 ^ w → Given w (in_type w t o x y)
type_given w type.Unsigned o x y s h k = unsigned_given w o x y h k
type_given w type.Schar o x y s h k = int_given w o x y s h k
type_given w type.Uchar o x y s h k = int_given w o x y s h k
type_given w type.Int o x y s h k = int_given w o x y s h k
type_given w type.Void o x y s h k = int_given w o x y s h k

are_words : (w x y : ℕ) → x < 2 ^ w → y < 2 ^ w → (nat_lt x (2 ^ w) && nat_lt y (2 ^ w)) ≡ true
are_words w x y h k = grind (arith, nat_tests, h, k)

of_words_given : (w x y : ℕ) (r : Outcome) → x < 2 ^ w → y < 2 ^ w → Given w r → Given w (of_words w x y r)
of_words_given w x y r h k g = subst (λ b. Given w (if b then r else undefined 0)) (sym (are_words w x y h k)) g

pub calculate_given : (w : ℕ) (t : CType) (o : Arithmetic) (x y : ℕ) → IsWordSize w → x < 2 ^ w → y < 2 ^ w → Given w (calculate w t o x y)
calculate_given w t o x y s h k = of_words_given w x y (in_type w t o x y) h k (type_given w t o x y s h k)

pub compare_given : (w : ℕ) (t : CType) (r u : Rel) (x y : ℕ) → IsWordSize w → x < 2 ^ w → y < 2 ^ w → Given w (compare w t r u x y)
compare_given w t r u x y s h k = of_words_given w x y (gives (word_rel w (relation_in t r u) x y)) h k (word_rel-below w (relation_in t r u) x y s)

negate_given : (w : ℕ) (t : CType) (x : ℕ) → IsWordSize w → x < 2 ^ w → Given w (negate w t x)
negate_given w type.Unsigned x s h = word_neg-below w x
negate_given w type.Schar x s h = calculate_given w type.Schar arithmetic.Subtract 0 x s (pow_pos w) h
negate_given w type.Uchar x s h = calculate_given w type.Uchar arithmetic.Subtract 0 x s (pow_pos w) h
negate_given w type.Int x s h = calculate_given w type.Int arithmetic.Subtract 0 x s (pow_pos w) h
negate_given w type.Void x s h = calculate_given w type.Void arithmetic.Subtract 0 x s (pow_pos w) h

pub apply_given : (w : ℕ) (t : CType) (o : UnaryOperator) (x : ℕ) → IsWordSize w → x < 2 ^ w → Given w (apply w t o x)
apply_given w t unary.Plus x s h = h
apply_given w t unary.Minus x s h = negate_given w t x s h
apply_given w t unary.Complement x s h = word_not-below w x
apply_given w t unary.Not x s h = by (x == 0)
  where
    by : (b : Bool) → (if b then 1 else 0) < 2 ^ w
    by true = one_below w s
    by false = pow_pos w

pub step_given : (w : ℕ) (t : CType) (o : StepOperator) (x : ℕ) → IsWordSize w → x < 2 ^ w → Given w (step_by w t o x)
step_given w t step.Increment x s h = calculate_given w (promoted t) arithmetic.Add x 1 s h (one_below w s)
step_given w t step.Decrement x s h = calculate_given w (promoted t) arithmetic.Subtract x 1 s h (one_below w s)
