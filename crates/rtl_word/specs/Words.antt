-- The operators on words of w bits, as formulas on numbers. A word is a number below 2 ^ w, its signed reading is two's complement.
use Rattle.std.specs.Prelude.{ℕ, ◌+◌, ◌-◌, ◌*◌, ◌/◌, ◌%◌, ◌^◌, ◌≡◌, ◌⊎◌, Bool, not, cond, nat_lt, nat_le, ◌==◌, Option, Some, None, ℤ, pos, negsuc, int_lt, int_le, int_div, int_rem, suc, ◌&&◌, ◌||◌}
use Rattle.std.specs.Int.{int_shr}
use Rattle.rtl_word.specs.declared.Rel.{Rel}
use Rattle.rtl_word.specs.declared.Rel.TheVariants.{Eq, Ne, Lt, Le, Gt, Ge, Ltu, Leu, Gtu, Geu}

-- the two sizes of a machine's word
abbrev pub IsWordSize : ℕ → Type 0
IsWordSize w = (w ≡ 16) ⊎ (w ≡ 32)

-- the operators that always have a value, modulo 2 ^ w
abbrev pub word_add : ℕ → ℕ → ℕ → ℕ
word_add w a b = (a + b) % 2 ^ w

abbrev pub word_sub : ℕ → ℕ → ℕ → ℕ
word_sub w a b = (a + (2 ^ w - b)) % 2 ^ w

abbrev pub word_neg : ℕ → ℕ → ℕ
word_neg w a = (2 ^ w - a) % 2 ^ w

abbrev pub word_mul : ℕ → ℕ → ℕ → ℕ
word_mul w a b = a * b % 2 ^ w

abbrev pub word_not : ℕ → ℕ → ℕ
word_not w a = 2 ^ w - 1 - a

-- the signed reading of a word
abbrev pub word_signed : ℕ → ℕ → ℤ
word_signed w a = cond (nat_lt a (2 ^ (w - 1))) (pos a) (negsuc (2 ^ w - suc a))

-- the word whose signed reading is a number between -(2 ^ (w - 1)) and 2 ^ (w - 1) - 1
abbrev pub word_of_signed : ℕ → ℤ → ℕ
word_of_signed w (pos n) = n
word_of_signed w (negsuc n) = 2 ^ w - suc n

-- whether the divisor is zero, or the quotient 2 ^ (w - 1), which is no signed word
abbrev pub word_div_traps : ℕ → ℕ → ℕ → Bool
word_div_traps w a b = b == 0 || (a == 2 ^ (w - 1) && b == 2 ^ w - 1)

-- the signed quotient and remainder, truncated towards zero
abbrev pub word_div : ℕ → ℕ → ℕ → Option ℕ
word_div w a b = cond (word_div_traps w a b) None (Some (word_of_signed w (int_div (word_signed w a) (word_signed w b))))

abbrev pub word_rem : ℕ → ℕ → ℕ → Option ℕ
word_rem w a b = cond (word_div_traps w a b) None (Some (word_of_signed w (int_rem (word_signed w a) (word_signed w b))))

-- the unsigned quotient and remainder
abbrev pub word_divu : ℕ → ℕ → Option ℕ
word_divu a b = cond (b == 0) None (Some (a / b))

abbrev pub word_remu : ℕ → ℕ → Option ℕ
word_remu a b = cond (b == 0) None (Some (a % b))

-- the shifts: to the left, arithmetic to the right, and logical to the right
abbrev pub word_shl : ℕ → ℕ → ℕ → Option ℕ
word_shl w a b = cond (nat_lt b w) (Some (a * 2 ^ b % 2 ^ w)) None

abbrev pub word_shr : ℕ → ℕ → ℕ → Option ℕ
word_shr w a b = cond (nat_lt b w) (Some (word_of_signed w (int_shr (word_signed w a) b))) None

abbrev pub word_shru : ℕ → ℕ → ℕ → Option ℕ
word_shru w a b = cond (nat_lt b w) (Some (a / 2 ^ b)) None

-- the low byte with its sign extended
abbrev pub word_sxb : ℕ → ℕ → ℕ
word_sxb w a = cond (nat_lt (a % 256) 128) (a % 256) (a % 256 + (2 ^ w - 256))

-- whether a relation holds
abbrev pub word_test : ℕ → Rel → ℕ → ℕ → Bool
word_test w Eq a b = a == b
word_test w Ne a b = not (a == b)
word_test w Lt a b = int_lt (word_signed w a) (word_signed w b)
word_test w Le a b = int_le (word_signed w a) (word_signed w b)
word_test w Gt a b = int_lt (word_signed w b) (word_signed w a)
word_test w Ge a b = int_le (word_signed w b) (word_signed w a)
word_test w Ltu a b = nat_lt a b
word_test w Leu a b = nat_le a b
word_test w Gtu a b = nat_lt b a
word_test w Geu a b = nat_le b a

abbrev pub word_rel : ℕ → Rel → ℕ → ℕ → ℕ
word_rel w r a b = cond (word_test w r a b) 1 0

-- the relation that holds with the operands exchanged
abbrev pub mirrored : Rel → Rel
mirrored Eq = Eq
mirrored Ne = Ne
mirrored Lt = Gt
mirrored Le = Ge
mirrored Gt = Lt
mirrored Ge = Le
mirrored Ltu = Gtu
mirrored Leu = Geu
mirrored Gtu = Ltu
mirrored Geu = Leu

-- the relation that holds where a relation does not
abbrev pub negated : Rel → Rel
negated Eq = Ne
negated Ne = Eq
negated Lt = Ge
negated Le = Gt
negated Gt = Le
negated Ge = Lt
negated Ltu = Geu
negated Leu = Gtu
negated Gtu = Leu
negated Geu = Ltu
