-- Products, and how additions make them.
use Rattle.std.proofs.Common.{◌≡◌, ℕ, ◌+◌, ◌*◌, ◌%◌, ◌^◌, ◌<◌, arith, sym, ap, ◌∙◌}
use Rattle.std.proofs.Math.Nat.{mul_comm, mul-add, mod-add-mod, mod-eq_of_lt}
use Rattle.std.proofs.lemmas.Nat.{mul-mod_first}
use Rattle.rtl_word.specs.Words.{word_add, word_mul}

pub mul_commutes : (w a b : ℕ) → word_mul w a b ≡ word_mul w b a
mul_commutes w a b = ap (λ n. n % 2 ^ w) (mul_comm a b)

pub mul_one : (w a : ℕ) → a < 2 ^ w → word_mul w a 1 ≡ a
mul_one w a h = let k : a * 1 ≡ a = omega arith in ap (λ n. n % 2 ^ w) k ∙ mod-eq_of_lt h

-- a product by an even number is one by its half, of the doubled word
pub mul_even : (w a b : ℕ) → word_mul w a (b + b) ≡ word_mul w (word_add w a a) b
mul_even w a b =
    let k : a * (b + b) ≡ (a + a) * b = mul-add a b b ∙ (ap (λ n. n + n) (mul_comm a b) ∙ (sym (mul-add b a a) ∙ mul_comm b (a + a))) in
    ap (λ n. n % 2 ^ w) k ∙ sym (mul-mod_first (a + a) b (2 ^ w))

-- a product by an odd number adds the word once more
pub mul_odd : (w a b : ℕ) → word_mul w a (b + b + 1) ≡ word_add w (word_mul w (word_add w a a) b) a
mul_odd w a b =
    let o : a * 1 ≡ a = omega arith in
    let k : a * (b + b + 1) ≡ a * (b + b) + a = mul-add a (b + b) 1 ∙ ap (λ n. a * (b + b) + n) o in
    ap (λ n. n % 2 ^ w) k ∙ (sym (mod-add-mod (a * (b + b)) (2 ^ w) a) ∙ ap (λ n. word_add w n a) (mul_even w a b))
