-- What the operators of the source compute the machine's operators compute.
use Rattle.std.proofs.Common.{◌≡◌, ◌≢◌, ℕ, zero, suc, ◌+◌, ◌*◌, ◌-◌, ◌%◌, ◌^◌, ◌≤◌, ◌<◌, ◌⊎◌, inl, inr, List, [], ◌∷◌, Option, Some, None, Ok, refl, sym, ap, ◌∙◌, subst, arith, true, false}
use Rattle.std.specs.Prelude.{Bool, if◌then◌else◌, nat_lt, ◌&&◌, bit_and, bit_or, bit_xor, unwrap_or}
use Rattle.std.proofs.lemmas.Bool.Decides.{nat_tests}
use Rattle.std.proofs.lemmas.Nat.{or_lt, xor_lt}
use Rattle.std.proofs.Math.Nat.{mod-eq_of_lt}
use Rattle.rtl_word.specs.declared.Rel.{Rel}
use Rattle.rtl_word.specs.Words.{IsWordSize, word_div, word_rem, word_divu, word_remu, word_shl, word_shr, word_shru}
use Rattle.rtl_word.proofs.Below.{by_size, word_add-below, word_sub-below, word_mul-below, bit_and-below, word_div-below, word_rem-below, word_divu-below, word_remu-below, word_shl-below, word_shr-below, word_shru-below}
use Rattle.rtl_tree.specs.declared.expressions.BinOp.{BinOp}
use Rattle.rtl_tree.specs.declared.expressions.BinOp.TheVariants as op
use Rattle.rtl_value.specs.declared.state.Trap.TheVariants.{Divide, Shift}
use Rattle.rtl_value.specs.Values.{binary_of, or_trap}
use Rattle.c_tree.specs.declared.types.CType.{CType}
use Rattle.c_tree.specs.declared.types.CType.TheVariants as type
use Rattle.c_tree.specs.declared.syntax.Arithmetic.{Arithmetic}
use Rattle.c_tree.specs.declared.syntax.Arithmetic.TheVariants.{Add, Subtract, Multiply, Divide as Over, Remainder, And, Xor, Or, ShiftLeft, ShiftRight}
use Rattle.c_meaning.specs.Operators.{Outcome, gives, undefined, or_act, shifted, in_int, in_unsigned, in_type, of_words, calculate, relation_in}
use Rattle.naive_code.specs.Expressions.{by_type}

-- ---- outcomes

abbrev value_or : ℕ → Outcome → ℕ
value_or n (gives v) = v
value_or n (undefined what) = n

pub same_value : (v z : ℕ) → gives v ≡ gives z → v ≡ z
same_value v z e = ap (value_or v) e

pub no_outcome : {A : Type 0} (what z : ℕ) → undefined what ≡ gives z → A
no_outcome what z e = absurd (grind (arith, e))

pub given_if : (b : Bool) (v what z : ℕ) → (if b then gives v else undefined what) ≡ gives z → v ≡ z
given_if true v what z e = same_value v z e
given_if false v what z e = no_outcome what z e

given_or : (o : Option ℕ) (what z : ℕ) → or_act what o ≡ gives z → o ≡ Some z
given_or (Some v) what z e = ap Some (same_value v z e)
given_or None what z e = no_outcome what z e

-- the operands were words
pub record Of_words (w x y : ℕ) (r : Outcome) (z : ℕ) : Type 0 where
  pub left : x < 2 ^ w
  pub right : y < 2 ^ w
  pub given : r ≡ gives z

pub words_given : (w x y : ℕ) (r : Outcome) (z : ℕ) → of_words w x y r ≡ gives z → Of_words w x y r z
words_given w x y r z e = by_tests (nat_lt x (2 ^ w)) (nat_lt y (2 ^ w)) refl refl e
  where
    by_tests : (a b : Bool) → nat_lt x (2 ^ w) ≡ a → nat_lt y (2 ^ w) ≡ b → (if a && b then r else undefined 0) ≡ gives z → Of_words w x y r z
    by_tests true true p q g = record { left = grind (arith, nat_tests, p); right = grind (arith, nat_tests, q); given = g }
    by_tests true false p q g = no_outcome 0 z g
    by_tests false b p q g = no_outcome 0 z g

-- ---- a type computes as int does, or as unsigned does

pub record Computes_as (by of : CType) : Type 0 where
  pub calculates : (w : ℕ) (o : Arithmetic) (x y : ℕ) → in_type w of o x y ≡ in_type w by o x y
  pub chooses : (signed unsigned : BinOp) → by_type of signed unsigned ≡ by_type by signed unsigned
  pub relates : (signed unsigned : Rel) → relation_in of signed unsigned ≡ relation_in by signed unsigned

pub int_or_unsigned : (of : CType) → Computes_as type.Int of ⊎ Computes_as type.Unsigned of
int_or_unsigned type.Schar = inl (record { calculates = λ w o x y. refl; chooses = λ a b. refl; relates = λ a b. refl })
int_or_unsigned type.Uchar = inl (record { calculates = λ w o x y. refl; chooses = λ a b. refl; relates = λ a b. refl })
int_or_unsigned type.Int = inl (record { calculates = λ w o x y. refl; chooses = λ a b. refl; relates = λ a b. refl })
int_or_unsigned type.Unsigned = inr (record { calculates = λ w o x y. refl; chooses = λ a b. refl; relates = λ a b. refl })
int_or_unsigned type.Void = inl (record { calculates = λ w o x y. refl; chooses = λ a b. refl; relates = λ a b. refl })

-- ---- the machine's operators

-- of int and of unsigned operands; that of `&` takes one transfer or two
abbrev pub operator : Arithmetic → CType → BinOp
operator Add of = op.Add
operator Subtract of = op.Sub
operator Multiply of = op.Mul
operator Over of = by_type of op.Div op.Divu
operator Remainder of = by_type of op.Rem op.Remu
operator And of = op.And
operator Xor of = op.Xor
operator Or of = op.Or
operator ShiftLeft of = op.Shl
operator ShiftRight of = by_type of op.Shr op.Shru

-- the machine's value is this one, and a word
pub record Gives_word (w : ℕ) (o : BinOp) (x y z : ℕ) : Type 0 where
  pub value : binary_of w o x y ≡ Ok z
  pub small : z < 2 ^ w

plain_value : (w : ℕ) (o : BinOp) (x y v z : ℕ) → binary_of w o x y ≡ Ok v → v < 2 ^ w → v ≡ z → Gives_word w o x y z
plain_value w o x y v z is lt e = record { value = is ∙ ap Ok e; small = subst (λ n. n < 2 ^ w) e lt }

shift_is : (w x y z : ℕ) → IsWordSize w → shifted w x y ≡ gives z → word_shl w x y ≡ Some z
shift_is w x y z size e = by_tests (nat_lt y w) (nat_lt (x * 2 ^ y) (2 ^ (w - 1))) refl refl e
  where
    half : 2 ^ (w - 1) < 2 ^ w
    half = by_size (λ w. 2 ^ (w - 1) < 2 ^ w) (omega arith) (omega arith) w size

    by_tests : (a b : Bool) → nat_lt y w ≡ a → nat_lt (x * 2 ^ y) (2 ^ (w - 1)) ≡ b → (if a then (if b then gives (x * 2 ^ y) else undefined 4) else undefined 3) ≡ gives z → word_shl w x y ≡ Some z
    by_tests true true p q g =
        let lt : x * 2 ^ y < 2 ^ (w - 1) = grind (arith, nat_tests, q) in
        let small : x * 2 ^ y < 2 ^ w = omega (arith, lt, half) in
        rw p (ap Some (mod-eq_of_lt small ∙ same_value (x * 2 ^ y) z g))
    by_tests true false p q g = no_outcome 4 z g
    by_tests false b p q g = no_outcome 3 z g

in_int_gives : (w : ℕ) (o : Arithmetic) (x y z : ℕ) → IsWordSize w → x < 2 ^ w → y < 2 ^ w → in_int w o x y ≡ gives z → Gives_word w (operator o type.Int) x y z
in_int_gives w Add x y z size h k e = plain_value w op.Add x y _ z refl (word_add-below w x y) (given_if _ _ 1 z e)
in_int_gives w Subtract x y z size h k e = plain_value w op.Sub x y _ z refl (word_sub-below w x y) (given_if _ _ 1 z e)
in_int_gives w Multiply x y z size h k e = plain_value w op.Mul x y _ z refl (word_mul-below w x y) (given_if _ _ 1 z e)
in_int_gives w Over x y z size h k e =
    let g = given_or (word_div w x y) 2 z e in record { value = ap (λ o. or_trap o Divide) g; small = word_div-below w x y z size h k g }
in_int_gives w Remainder x y z size h k e =
    let g = given_or (word_rem w x y) 2 z e in record { value = ap (λ o. or_trap o Divide) g; small = word_rem-below w x y z size h k g }
in_int_gives w And x y z size h k e = plain_value w op.And x y (bit_and x y) z refl (bit_and-below w x y h) (same_value _ z e)
in_int_gives w Xor x y z size h k e = plain_value w op.Xor x y (bit_xor x y) z refl (xor_lt w x y h k) (same_value _ z e)
in_int_gives w Or x y z size h k e = plain_value w op.Or x y (bit_or x y) z refl (or_lt w x y h k) (same_value _ z e)
in_int_gives w ShiftLeft x y z size h k e =
    let g = shift_is w x y z size e in record { value = ap (λ o. or_trap o Shift) g; small = word_shl-below w x y z g }
in_int_gives w ShiftRight x y z size h k e =
    let g = given_or (word_shr w x y) 3 z e in record { value = ap (λ o. or_trap o Shift) g; small = word_shr-below w x y z size h g }

in_unsigned_gives : (w : ℕ) (o : Arithmetic) (x y z : ℕ) → x < 2 ^ w → y < 2 ^ w → in_unsigned w o x y ≡ gives z → Gives_word w (operator o type.Unsigned) x y z
in_unsigned_gives w Add x y z h k e = plain_value w op.Add x y _ z refl (word_add-below w x y) (same_value _ z e)
in_unsigned_gives w Subtract x y z h k e = plain_value w op.Sub x y _ z refl (word_sub-below w x y) (same_value _ z e)
in_unsigned_gives w Multiply x y z h k e = plain_value w op.Mul x y _ z refl (word_mul-below w x y) (same_value _ z e)
in_unsigned_gives w Over x y z h k e =
    let g = given_or (word_divu x y) 2 z e in record { value = ap (λ o. or_trap o Divide) g; small = word_divu-below w x y z h g }
in_unsigned_gives w Remainder x y z h k e =
    let g = given_or (word_remu x y) 2 z e in record { value = ap (λ o. or_trap o Divide) g; small = word_remu-below w x y z h g }
in_unsigned_gives w And x y z h k e = plain_value w op.And x y (bit_and x y) z refl (bit_and-below w x y h) (same_value _ z e)
in_unsigned_gives w Xor x y z h k e = plain_value w op.Xor x y (bit_xor x y) z refl (xor_lt w x y h k) (same_value _ z e)
in_unsigned_gives w Or x y z h k e = plain_value w op.Or x y (bit_or x y) z refl (or_lt w x y h k) (same_value _ z e)
in_unsigned_gives w ShiftLeft x y z h k e =
    let g = given_or (word_shl w x y) 3 z e in record { value = ap (λ o. or_trap o Shift) g; small = word_shl-below w x y z g }
in_unsigned_gives w ShiftRight x y z h k e =
    let g = given_or (word_shru w x y) 3 z e in record { value = ap (λ o. or_trap o Shift) g; small = word_shru-below w x y z h g }

operator_as : (by of : CType) → Computes_as by of → (o : Arithmetic) → operator o of ≡ operator o by
operator_as by of as_by Add = refl
operator_as by of as_by Subtract = refl
operator_as by of as_by Multiply = refl
operator_as by of as_by Over = as_by.chooses op.Div op.Divu
operator_as by of as_by Remainder = as_by.chooses op.Rem op.Remu
operator_as by of as_by And = refl
operator_as by of as_by Xor = refl
operator_as by of as_by Or = refl
operator_as by of as_by ShiftLeft = refl
operator_as by of as_by ShiftRight = as_by.chooses op.Shr op.Shru

-- where the source's operator has a value, the machine's has it, and it is a word
pub calculate_gives : (w : ℕ) (of : CType) (o : Arithmetic) (x y z : ℕ) → IsWordSize w → calculate w of o x y ≡ gives z → Gives_word w (operator o of) x y z
calculate_gives w of o x y z size e = by_sign (int_or_unsigned of)
  where
    words : Of_words w x y (in_type w of o x y) z
    words = words_given w x y (in_type w of o x y) z e

    by_sign : Computes_as type.Int of ⊎ Computes_as type.Unsigned of → Gives_word w (operator o of) x y z
    by_sign (inl h) =
        subst (λ n. Gives_word w n x y z) (sym (operator_as type.Int of h o)) (in_int_gives w o x y z size words.left words.right (sym (h.calculates w o x y) ∙ words.given))
    by_sign (inr h) =
        subst (λ n. Gives_word w n x y z) (sym (operator_as type.Unsigned of h o)) (in_unsigned_gives w o x y z words.left words.right (sym (h.calculates w o x y) ∙ words.given))
