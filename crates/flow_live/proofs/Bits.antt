-- Words with a bit more or less.
use Rattle.std.proofs.Common.{◌≡◌, ◌⊎◌, inl, inr, ℕ, zero, suc, ◌-◌, ◌*◌, ◌%◌, ◌^◌, ◌<◌, min, max, Bool, true, false, not, refl, sym, ap, subst, ◌∙◌, arith}
use Rattle.std.specs.Prelude.{◌&&◌, ◌||◌, ◌==◌, bit_and, bit_or}
use Rattle.std.specs.Int.{bit_at, Width, bit_not}
use Rattle.std.proofs.lemmas.Bool.{eqb-true, eqb-false, or_right, and_right}
use Rattle.std.proofs.lemmas.Nat.Bits.{bit_at_and, bit_at_or, bit_at_not, bit_at-lt, bit_at_set_same, bit_at_set_other, bit_at_clear_same, bit_at_clear_other}
use mir.Val.{bits}
use Rattle.flow_live.specs.Rows.{has_bit}

pub or_false : (b : Bool) → (b || false) ≡ b
or_false true = refl
or_false false = refl

pub and_true : (b : Bool) → (b && true) ≡ b
and_true true = refl
and_true false = refl

pub with_one : (w : Width) (word n k : ℕ) → n < bits w → has_bit (bit_or word (1 * 2 ^ n % 2 ^ bits w)) k ≡ (has_bit word k || (k == n))
with_one w word n k l = by (k == n) refl
  where
    by : (b : Bool) → (k == n) ≡ b → has_bit (bit_or word (1 * 2 ^ n % 2 ^ bits w)) k ≡ (has_bit word k || b)
    by true e =
        ap (λ (x : ℕ). x == 1) (subst (λ (j : ℕ). bit_at (bit_or word (1 * 2 ^ n % 2 ^ bits w)) j ≡ 1) (sym (eqb-true k n e)) (bit_at_set_same w word n l))
        ∙ sym (or_right (has_bit word k) true refl)
    by false e = ap (λ (x : ℕ). x == 1) (bit_at_set_other w word n l k (eqb-false k n e)) ∙ sym (or_false (has_bit word k))

pub without_one : (w : Width) (word n k : ℕ) → n < bits w → k < bits w
    → has_bit (bit_and word (bit_not w (1 * 2 ^ n % 2 ^ bits w))) k ≡ (has_bit word k && not (k == n))
without_one w word n k l m = by (k == n) refl
  where
    by : (b : Bool) → (k == n) ≡ b → has_bit (bit_and word (bit_not w (1 * 2 ^ n % 2 ^ bits w))) k ≡ (has_bit word k && not b)
    by true e =
        ap (λ (x : ℕ). x == 1) (subst (λ (j : ℕ). bit_at (bit_and word (bit_not w (1 * 2 ^ n % 2 ^ bits w))) j ≡ 0) (sym (eqb-true k n e)) (bit_at_clear_same w word n l))
        ∙ sym (and_right (has_bit word k) false refl)
    by false e = ap (λ (x : ℕ). x == 1) (bit_at_clear_other w word n l k m (eqb-false k n e)) ∙ sym (and_true (has_bit word k))

-- bits are 0 or 1

two : (a : ℕ) → a < 2 → (a ≡ 0) ⊎ (a ≡ 1)
two zero l = inl refl
two (suc zero) l = inr refl
two (suc (suc a)) l = absurd (omega (arith, l))

on_bits : (P : ℕ → ℕ → Type 0) → P 0 0 → P 0 1 → P 1 0 → P 1 1 → (a b : ℕ) → a < 2 → b < 2 → P a b
on_bits P p q r s a b l m = by (two a l) (two b m)
  where
    at : (x y : ℕ) → a ≡ x → b ≡ y → P x y → P a b
    at x y e f h = subst (λ (z : ℕ). P z b) (sym e) (subst (λ (z : ℕ). P x z) (sym f) h)

    by : (a ≡ 0) ⊎ (a ≡ 1) → (b ≡ 0) ⊎ (b ≡ 1) → P a b
    by (inl e) (inl f) = at 0 0 e f p
    by (inl e) (inr f) = at 0 1 e f q
    by (inr e) (inl f) = at 1 0 e f r
    by (inr e) (inr f) = at 1 1 e f s

min_both : (a b : ℕ) → a < 2 → b < 2 → (min a b == 1) ≡ ((a == 1) && (b == 1))
min_both = on_bits (λ a b. (min a b == 1) ≡ ((a == 1) && (b == 1))) refl refl refl refl

min_not : (a b : ℕ) → a < 2 → b < 2 → (min a (1 - b) == 1) ≡ ((a == 1) && not (b == 1))
min_not = on_bits (λ a b. (min a (1 - b) == 1) ≡ ((a == 1) && not (b == 1))) refl refl refl refl

max_not : (a b : ℕ) → a < 2 → b < 2 → (max a (1 - b) == 1) ≡ ((a == 1) || not (b == 1))
max_not = on_bits (λ a b. (max a (1 - b) == 1) ≡ ((a == 1) || not (b == 1))) refl refl refl refl

pub both_bits : (a b k : ℕ) → has_bit (bit_and a b) k ≡ (has_bit a k && has_bit b k)
both_bits a b k = ap (λ (x : ℕ). x == 1) (bit_at_and a b k) ∙ min_both (bit_at a k) (bit_at b k) (bit_at-lt a k) (bit_at-lt b k)

pub without_mask : (w : Width) (word mask k : ℕ) → mask < 2 ^ bits w → k < bits w → has_bit (bit_and word (bit_not w mask)) k ≡ (has_bit word k && not (has_bit mask k))
without_mask w word mask k l m =
    ap (λ (x : ℕ). x == 1) (bit_at_and word (bit_not w mask) k ∙ ap (min (bit_at word k)) (bit_at_not w mask k l m))
    ∙ min_not (bit_at word k) (bit_at mask k) (bit_at-lt word k) (bit_at-lt mask k)

pub with_others : (w : Width) (word mask k : ℕ) → mask < 2 ^ bits w → k < bits w → has_bit (bit_or word (bit_not w mask)) k ≡ (has_bit word k || not (has_bit mask k))
with_others w word mask k l m =
    ap (λ (x : ℕ). x == 1) (bit_at_or word (bit_not w mask) k ∙ ap (max (bit_at word k)) (bit_at_not w mask k l m))
    ∙ max_not (bit_at word k) (bit_at mask k) (bit_at-lt word k) (bit_at-lt mask k)
