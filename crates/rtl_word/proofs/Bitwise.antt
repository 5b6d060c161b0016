-- The operators on bits, and the extension of a byte.
use Rattle.std.proofs.Common.{◌≡◌, ℕ, ◌+◌, ◌-◌, ◌%◌, ◌^◌, ◌<◌, ◌≤◌, cond, bit_and, bit_or, arith, sym, ap, ◌∙◌}
use Rattle.std.specs.Prelude.{nat_lt}
use Rattle.std.proofs.lemmas.Bool.Decides.{nat_tests}
use Rattle.std.proofs.lemmas.Nat.{and_mod, and_le_r, and_mask}
use Rattle.std.proofs.lemmas.Nat.Bits.{same_from_bits, bit_at_or}
use Rattle.std.proofs.Math.Nat.{mod-eq_of_lt}
use Rattle.rtl_word.specs.Words.{IsWordSize, word_sxb}
use Rattle.rtl_word.proofs.Below.{by_size}

pub or_assoc : (a b c : ℕ) → bit_or (bit_or a b) c ≡ bit_or a (bit_or b c)
or_assoc a b c = same_from_bits (bit_or (bit_or a b) c) (bit_or a (bit_or b c)) (λ i. simp bit_at_or (omega arith))

-- the word of ones is the unit of `&`
pub and_ones : (w a : ℕ) → a < 2 ^ w → bit_and a (2 ^ w - 1) ≡ a
and_ones w a h = and_mask a w ∙ mod-eq_of_lt h

-- the extension keeps the low byte
pub sxb_low : (w a : ℕ) → IsWordSize w → word_sxb w a % 256 ≡ a % 256
sxb_low w a z = by_size (λ n. word_sxb n a % 256 ≡ a % 256) (grind (arith, nat_tests)) (grind (arith, nat_tests)) w z

-- the extension sees the low byte alone
pub sxb_same : (w a b : ℕ) → a % 256 ≡ b % 256 → word_sxb w a ≡ word_sxb w b
sxb_same w a b e = ap (λ n. cond (nat_lt n 128) n (n + (2 ^ w - 256))) e

pub sxb_sxb : (w a : ℕ) → IsWordSize w → word_sxb w (word_sxb w a) ≡ word_sxb w a
sxb_sxb w a z = sxb_same w (word_sxb w a) a (sxb_low w a z)

pub sxb_and : (w a : ℕ) → word_sxb w (bit_and a 255) ≡ word_sxb w a
sxb_and w a = let k : bit_and a 255 ≡ a % 256 = and_mask a 8 in sxb_same w (bit_and a 255) a (omega arith)

-- what a number below 256 cuts off comes from the low byte
and_low : (a c : ℕ) → c ≤ 255 → bit_and a c ≡ bit_and (a % 2 ^ 8) c
and_low a c h =
    let k : bit_and a c % 2 ^ 8 ≡ bit_and (a % 2 ^ 8) (c % 2 ^ 8) = and_mod a c 8 in
    let l : bit_and a c % 2 ^ 8 ≡ bit_and a c = mod-eq_of_lt (omega (arith, and_le_r a c)) in
    let m : c % 2 ^ 8 ≡ c = mod-eq_of_lt (omega arith) in
    sym l ∙ (k ∙ ap (bit_and (a % 2 ^ 8)) m)

pub sxb_cut : (w a c : ℕ) → IsWordSize w → c ≤ 255 → bit_and (word_sxb w a) c ≡ bit_and a c
sxb_cut w a c z h =
    and_low (word_sxb w a) c h ∙ (ap (λ n. bit_and n c) (sxb_low w a z) ∙ sym (and_low a c h))

pub byte_cut : (a : ℕ) → a < 256 → bit_and a 255 ≡ a
byte_cut a h = and_mask a 8 ∙ mod-eq_of_lt h

-- the low byte of what is stored
pub low_of_sxb : (w a : ℕ) → IsWordSize w → word_sxb w a % 256 ≡ a % 256
low_of_sxb = sxb_low

pub low_of_cut : (a : ℕ) → bit_and a 255 % 256 ≡ a % 256
low_of_cut a = let k : bit_and a 255 ≡ a % 256 = and_mask a 8 in omega arith
