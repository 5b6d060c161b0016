-- A step of a long division, and what else of words the helpers cite.
use Rattle.std.proofs.Common.{◌≡◌, ℕ, ◌+◌, ◌-◌, ◌*◌, ◌/◌, ◌%◌, ◌^◌, ◌<◌, ◌≤◌, bit_and, bit_or, bit_xor, arith, ap, ◌∙◌}
use Rattle.std.proofs.Math.Nat.{mul_comm, mul-add, div-add-mod, mod-eq_of_lt}
use Rattle.std.proofs.lemmas.Nat.{pow_pos, div-mul-add, mod-mul-add}
use Rattle.std.specs.Int.Bits.{or_add_and, xor_add_and}
use Rattle.rtl_word.specs.Words.{IsWordSize, word_mul, word_sub}
use Rattle.rtl_word.proofs.Below.{by_size}

pub mul_none : (w a : ℕ) → word_mul w a 0 ≡ 0
mul_none w a = let h : 0 % 2 ^ w ≡ 0 = mod-eq_of_lt (pow_pos w) in let k : a * 0 ≡ 0 = omega arith in ap (λ n. n % 2 ^ w) k ∙ h

-- the bits of one word alone
pub xor_sub : (w a b : ℕ) → IsWordSize w → bit_or a b < 2 ^ w → bit_xor a b ≡ word_sub w (bit_or a b) (bit_and a b)
xor_sub w a b z h =
    let x = xor_add_and a b in
    let o = or_add_and a b in
    by_size (λ n. bit_or a b < 2 ^ n → bit_xor a b ≡ word_sub n (bit_or a b) (bit_and a b))
    (λ k. omega arith) (λ k. omega arith) w z h

twice : (q d : ℕ) → (q + q) * d ≡ q * d + q * d
twice q d = mul_comm (q + q) d ∙ (mul-add d q q ∙ ap (λ n. n + n) (mul_comm d q))

once_more : (q d : ℕ) → (q + q + 1) * d ≡ q * d + q * d + d
once_more q d =
    let o : d * 1 ≡ d = omega arith in
    mul_comm (q + q + 1) d ∙ (mul-add d (q + q) 1 ∙ (ap (λ n. d * (q + q) + n) o ∙ ap (λ n. n + d) (mul_comm d (q + q) ∙ twice q d)))

-- the next bit of a long division is 0 where the doubled remainder and the bit are below the divisor
pub quotient_bit_0 : (n d b : ℕ) → n % d + n % d + b < d → ((n + n + b) / d ≡ n / d + n / d) × ((n + n + b) % d ≡ n % d + n % d + b)
quotient_bit_0 n d b h =
    let q = n / d in let r = n % d in
    let s : d * q + r ≡ n = div-add-mod n d in
    let c : d * q ≡ q * d = mul_comm d q in
    let t : (q + q) * d ≡ q * d + q * d = twice q d in
    let k : n + n + b ≡ (q + q) * d + (r + r + b) = omega arith in
    (ap (λ m. m / d) k ∙ div-mul-add (q + q) d (r + r + b) h, ap (λ m. m % d) k ∙ mod-mul-add (q + q) d (r + r + b) h)

-- and 1 where they are not, and then the divisor is taken off
pub quotient_bit_1 : (n d b : ℕ) → d ≤ n % d + n % d + b → n % d < d → b < 2 → ((n + n + b) / d ≡ n / d + n / d + 1) × ((n + n + b) % d ≡ n % d + n % d + b - d)
quotient_bit_1 n d b h l z =
    let q = n / d in let r = n % d in
    let s : d * q + r ≡ n = div-add-mod n d in
    let c : d * q ≡ q * d = mul_comm d q in
    let t : (q + q + 1) * d ≡ q * d + q * d + d = once_more q d in
    let k : n + n + b ≡ (q + q + 1) * d + (r + r + b - d) = omega arith in
    let m : r + r + b - d < d = omega arith in
    (ap (λ x. x / d) k ∙ div-mul-add (q + q + 1) d (r + r + b - d) m, ap (λ x. x % d) k ∙ mod-mul-add (q + q + 1) d (r + r + b - d) m)
