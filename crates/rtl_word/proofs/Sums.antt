-- Sums, differences, negated words and products.
use Rattle.std.proofs.Common.{◌≡◌, ℕ, ◌+◌, ◌-◌, ◌%◌, ◌^◌, ◌<◌, arith, sym, ap, ◌∙◌}
use Rattle.std.proofs.Math.Nat.{add-mod-mod, mod-add-mod, mod-eq_of_lt}
use Rattle.rtl_word.specs.Words.{IsWordSize, word_add, word_sub, word_neg, word_not}
use Rattle.rtl_word.proofs.Below.{by_size}

pub add_comm : (w a b : ℕ) → word_add w a b ≡ word_add w b a
add_comm w a b = ap (λ n. n % 2 ^ w) (omega arith)

pub add_assoc : (w a b c : ℕ) → word_add w (word_add w a b) c ≡ word_add w a (word_add w b c)
add_assoc w a b c =
    mod-add-mod (a + b) (2 ^ w) c ∙ (ap (λ n. n % 2 ^ w) (omega arith) ∙ sym (add-mod-mod a (b + c) (2 ^ w)))

pub add_zero : (w a : ℕ) → a < 2 ^ w → word_add w a 0 ≡ a
add_zero w a h = ap (λ n. n % 2 ^ w) (omega arith) ∙ mod-eq_of_lt h

-- a difference is the sum with the negated word
pub add_neg : (w a b : ℕ) → word_add w a (word_neg w b) ≡ word_sub w a b
add_neg w a b = add-mod-mod a (2 ^ w - b) (2 ^ w)

pub zero_sub : (w a : ℕ) → word_sub w 0 a ≡ word_neg w a
zero_sub w a = ap (λ n. n % 2 ^ w) (omega arith)

pub neg_neg : (w a : ℕ) → IsWordSize w → a < 2 ^ w → word_neg w (word_neg w a) ≡ a
neg_neg w a z = by_size (λ n. a < 2 ^ n → word_neg n (word_neg n a) ≡ a) (λ h. omega arith) (λ h. omega arith) w z

pub not_not : (w a : ℕ) → a < 2 ^ w → word_not w (word_not w a) ≡ a
not_not w a h = omega arith
