-- A number that is made of another's bits, from the lowest on.
use Rattle.std.proofs.Common.{◌≡◌, ℕ, ◌+◌, ◌<◌, ◌^◌, Bool, true, false, cond, nat_lt, ◌==◌, max, bit_or, refl, sym, subst, ap, arith, ◌∙◌}
use Rattle.std.specs.Int.{bit_at}
use Rattle.std.proofs.lemmas.Nat.Bits.{bit_at_or, bit_at-pow_same, bit_at-pow_other, same_from_bits_below}
use Rattle.std.proofs.lemmas.Bool.Decides.{nat_tests}
use Rattle.recogniser.specs.Searching.{HasBit, HasBitsBelow}

one_by : (whole n k : ℕ) (b : Bool) → (k == n) ≡ b → (bit_at whole n == 1) ≡ true → bit_at (2 ^ n) k ≡ cond b (bit_at whole k) 0
one_by whole n k true e h =
    let same : k ≡ n = grind (arith, nat_tests) in
    subst (λ (j : ℕ). bit_at (2 ^ n) j ≡ bit_at whole j) (sym same) (bit_at-pow_same n ∙ (let one : 1 ≡ bit_at whole n = grind (arith, nat_tests) in one))
one_by whole n k false e h = bit_at-pow_other n k (grind (arith, nat_tests))

-- the n-th bit, where it is set
pub one_bit : (whole n : ℕ) → (bit_at whole n == 1) ≡ true → HasBit whole (2 ^ n) n
one_bit whole n h k = one_by whole n k (k == n) refl h

joined_by : (n k v : ℕ) (a b c : Bool) → nat_lt k n ≡ a → (k == n) ≡ b → nat_lt k (n + 1) ≡ c → max (cond a v 0) (cond b v 0) ≡ cond c v 0
joined_by n k v true true c e f g = absurd (grind (arith, nat_tests))
joined_by n k v true false true e f g = omega arith
joined_by n k v true false false e f g = absurd (grind (arith, nat_tests))
joined_by n k v false true true e f g = omega arith
joined_by n k v false true false e f g = absurd (grind (arith, nat_tests))
joined_by n k v false false true e f g = absurd (grind (arith, nat_tests))
joined_by n k v false false false e f g = omega arith

pub one_more_bit : (whole a b n : ℕ) → HasBitsBelow whole a n → HasBit whole b n → HasBitsBelow whole (bit_or a b) (n + 1)
one_more_bit whole a b n f g k =
    bit_at_or a b k ∙ ap (λ (x : ℕ). max x (bit_at b k)) (f k) ∙ ap (λ (x : ℕ). max (cond (nat_lt k n) (bit_at whole k) 0) x) (g k)
    ∙ joined_by n k (bit_at whole k) (nat_lt k n) (k == n) (nat_lt k (n + 1)) refl refl refl

below_is : (n k v : ℕ) (b : Bool) → nat_lt k n ≡ b → k < n → cond b v 0 ≡ v
below_is n k v true e l = refl
below_is n k v false e l = absurd (grind (arith, nat_tests))

pub all_bits : (whole a n : ℕ) → a < 2 ^ n → whole < 2 ^ n → HasBitsBelow whole a n → a ≡ whole
all_bits whole a n p q f = same_from_bits_below n a whole p q (λ k l. f k ∙ below_is n k (bit_at whole k) (nat_lt k n) refl l)
