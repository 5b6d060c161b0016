-- What an operator gives is a word.
use Rattle.std.proofs.Common.{◌≡◌, ℕ, ◌^◌, ◌<◌, inl, inr, true, false, Some, cond, bit_and, arith, subst, sym}
use Rattle.std.proofs.lemmas.Grind.{common_steps}
use Rattle.std.proofs.lemmas.Bool.Decides.{nat_tests}
use Rattle.std.proofs.lemmas.Int.{ints}
use Rattle.std.proofs.lemmas.Nat.{pow_pos, mod_below, and_le_l}
use Rattle.rtl_word.specs.declared.Rel.{Rel}
use Rattle.rtl_word.specs.Words.{word_add, word_sub, word_neg, word_mul, word_not, word_div, word_rem, word_divu, word_remu, word_shl, word_shr, word_shru, word_sxb, word_rel, word_test, IsWordSize}

-- a fact of both sizes
pub by_size : (P : ℕ → Type 0) → P 16 → P 32 → (w : ℕ) → IsWordSize w → P w
by_size P a b w s = elim s [ inl e ↦ subst P (sym e) a | inr e ↦ subst P (sym e) b ]

pub word_add-below : (w a b : ℕ) → word_add w a b < 2 ^ w
word_add-below w a b = mod_below _ _ (pow_pos w)

pub word_sub-below : (w a b : ℕ) → word_sub w a b < 2 ^ w
word_sub-below w a b = mod_below _ _ (pow_pos w)

pub word_mul-below : (w a b : ℕ) → word_mul w a b < 2 ^ w
word_mul-below w a b = mod_below _ _ (pow_pos w)

pub word_neg-below : (w a : ℕ) → word_neg w a < 2 ^ w
word_neg-below w a = mod_below _ _ (pow_pos w)

pub word_not-below : (w a : ℕ) → word_not w a < 2 ^ w
word_not-below w a = omega (arith, pow_pos w)

pub bit_and-below : (w a b : ℕ) → a < 2 ^ w → bit_and a b < 2 ^ w
bit_and-below w a b h = omega (arith, and_le_l a b)

pub word_sxb-below : (w a : ℕ) → IsWordSize w → word_sxb w a < 2 ^ w
word_sxb-below w a s = by_size (λ n. word_sxb n a < 2 ^ n) (grind (arith, nat_tests)) (grind (arith, nat_tests)) w s

pub word_rel-below : (w : ℕ) (r : Rel) (a b : ℕ) → IsWordSize w → word_rel w r a b < 2 ^ w
word_rel-below w r a b s =
    let h : 1 < 2 ^ w = by_size (λ n. 1 < 2 ^ n) (omega arith) (omega arith) w s in
    elim (word_test w r a b) as (λ t. cond t 1 0 < 2 ^ w) [ true ↦ omega arith | false ↦ omega arith ]

pub word_div-below : (w a b v : ℕ) → IsWordSize w → a < 2 ^ w → b < 2 ^ w → word_div w a b ≡ Some v → v < 2 ^ w
word_div-below w a b v s =
    by_size (λ n. a < 2 ^ n → b < 2 ^ n → word_div n a b ≡ Some v → v < 2 ^ n)
    (λ h k e. grind (arith, nat_tests, ints)) (λ h k e. grind (arith, nat_tests, ints)) w s

pub word_rem-below : (w a b v : ℕ) → IsWordSize w → a < 2 ^ w → b < 2 ^ w → word_rem w a b ≡ Some v → v < 2 ^ w
word_rem-below w a b v s =
    by_size (λ n. a < 2 ^ n → b < 2 ^ n → word_rem n a b ≡ Some v → v < 2 ^ n)
    (λ h k e. grind (arith, nat_tests, ints)) (λ h k e. grind (arith, nat_tests, ints)) w s

pub word_shr-below : (w a b v : ℕ) → IsWordSize w → a < 2 ^ w → word_shr w a b ≡ Some v → v < 2 ^ w
word_shr-below w a b v s =
    by_size (λ n. a < 2 ^ n → word_shr n a b ≡ Some v → v < 2 ^ n)
    (λ h e. grind (arith, nat_tests, ints)) (λ h e. grind (arith, nat_tests, ints)) w s

pub word_divu-below : (w a b v : ℕ) → a < 2 ^ w → word_divu a b ≡ Some v → v < 2 ^ w
word_divu-below w a b v h e = grind (arith, nat_tests)

pub word_remu-below : (w a b v : ℕ) → a < 2 ^ w → word_remu a b ≡ Some v → v < 2 ^ w
word_remu-below w a b v h e = grind (arith, nat_tests)

pub word_shl-below : (w a b v : ℕ) → word_shl w a b ≡ Some v → v < 2 ^ w
word_shl-below w a b v e = let h = pow_pos w in grind (arith, nat_tests, mod_below)

pub word_shru-below : (w a b v : ℕ) → a < 2 ^ w → word_shru w a b ≡ Some v → v < 2 ^ w
word_shru-below w a b v h e = grind (arith, nat_tests, common_steps)
