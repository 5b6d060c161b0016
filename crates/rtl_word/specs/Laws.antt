-- Laws that tie signed words to unsigned ones.
use Rattle.std.specs.Prelude.{ℕ, ◌≡◌, ◌/◌, ◌%◌, ◌^◌, ◌<◌, Bool, false, not, cond, nat_le, ◌-◌, Some}
use Rattle.rtl_word.specs.Words.{word_neg, word_div, word_rem, word_div_traps}

-- whether the signed reading is below zero, and its distance from zero
abbrev pub is_negative : ℕ → ℕ → Bool
is_negative w a = nat_le (2 ^ (w - 1)) a

abbrev pub magnitude : ℕ → ℕ → ℕ
magnitude w a = cond (is_negative w a) (2 ^ w - a) a

-- the word of a magnitude, negated where told
abbrev pub negated_if : ℕ → Bool → ℕ → ℕ
negated_if w negative n = cond negative (word_neg w n) n

abbrev pub differ : Bool → Bool → Bool
differ s t = cond s (not t) t

-- the quotient of two signed words is that of their magnitudes, negated where the signs differ
abbrev pub DividesByMagnitudes : ℕ → Type 0
DividesByMagnitudes w =
    (a b : ℕ) → a < 2 ^ w → b < 2 ^ w → word_div_traps w a b ≡ false
    → word_div w a b ≡ Some (negated_if w (differ (is_negative w a) (is_negative w b)) (magnitude w a / magnitude w b))

-- the remainder is that of their magnitudes, with the sign of the dividend
abbrev pub RemainsByMagnitudes : ℕ → Type 0
RemainsByMagnitudes w =
    (a b : ℕ) → a < 2 ^ w → b < 2 ^ w → word_div_traps w a b ≡ false
    → word_rem w a b ≡ Some (negated_if w (is_negative w a) (magnitude w a % magnitude w b))
