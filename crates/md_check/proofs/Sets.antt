-- Bits of a set that is made bit by bit.
use Rattle.std.proofs.Common.{◌≡◌, ◌⊎◌, ◌↔◌, ℕ, ◌+◌, ◌<◌, ◌^◌, Bool, true, false, nat_eq, bit_or, max, inl, inr, refl, sym, subst, arith, ◌∙◌}
use Rattle.std.specs.Int.{bit_at}
use Rattle.std.proofs.lemmas.Nat.Bits.{bit_at_or, bit_at-lt, bit_at-pow_same, bit_at-pow_other}
use Rattle.std.proofs.lemmas.Bool.Decides.{nat_tests}
use Rattle.md_rows.specs.declared.description.RawDescription.{RawDescription}
use Rattle.md_shapes.specs.Shapes.{plain}
use Rattle.md_check.specs.Accepted.{IsCovered}
use Rattle.md_check.proofs.Rows.{earlier_one}

pow_by : (p k : ℕ) (b : Bool) → nat_eq k p ≡ b → bit_at (2 ^ p) k ≡ 1 → k ≡ p
pow_by p k true e h = grind (arith, nat_tests)
pow_by p k false e h =
    let z : bit_at (2 ^ p) k ≡ 0 = bit_at-pow_other p k (grind (arith, nat_tests)) in absurd (let q : 1 ≡ 0 = sym h ∙ z in omega arith)

pub pow_bit : (p k : ℕ) → bit_at (2 ^ p) k ≡ 1 → k ≡ p
pow_bit p k h = pow_by p k (nat_eq k p) refl h

pub has_pow : (p k : ℕ) → k ≡ p → bit_at (2 ^ p) k ≡ 1
has_pow p k e = subst (λ (n : ℕ). bit_at (2 ^ p) n ≡ 1) (sym e) (bit_at-pow_same p)

max_by : (x y : ℕ) (b : Bool) → nat_eq x 1 ≡ b → x < 2 → max x y ≡ 1 → (x ≡ 1) ⊎ (y ≡ 1)
max_by x y true e h m = inl (grind (arith, nat_tests))
max_by x y false e h m = inr (let z : x ≡ 0 = grind (arith, nat_tests) in omega (arith, z, m))

or_has : (a b k : ℕ) → bit_at (bit_or a b) k ≡ 1 → (bit_at a k ≡ 1) ⊎ (bit_at b k ≡ 1)
or_has a b k h = max_by (bit_at a k) (bit_at b k) (nat_eq (bit_at a k) 1) refl (bit_at-lt a k) (sym (bit_at_or a b k) ∙ h)

max_one : (x y : ℕ) → x < 2 → y < 2 → (x ≡ 1) ⊎ (y ≡ 1) → max x y ≡ 1
max_one x y h k e = elim e [ inl z ↦ omega (arith, z, h, k) | inr z ↦ omega (arith, z, h, k) ]

or_of : (a b k : ℕ) → (bit_at a k ≡ 1) ⊎ (bit_at b k ≡ 1) → bit_at (bit_or a b) k ≡ 1
or_of a b k h = bit_at_or a b k ∙ max_one (bit_at a k) (bit_at b k) (bit_at-lt a k) (bit_at-lt b k) h

pub set_step : (d : RawDescription) (a b place : ℕ) → ((k : ℕ) → (bit_at a k ≡ 1) ↔ ((k < place) × IsCovered d (plain (30 + k))))
    → ((k : ℕ) → (bit_at b k ≡ 1) ↔ ((k ≡ place) × IsCovered d (plain (30 + place))))
    → (k : ℕ) → (bit_at (bit_or a b) k ≡ 1) ↔ ((k < place + 1) × IsCovered d (plain (30 + k)))
set_step d a b place f g k = (
  λ h. elim (or_has a b k h) [
    | inl x ↦ (let y = (f k).0 x in let z = y.0 in (omega (arith, z), y.1))
    | inr x ↦ (let y = (g k).0 x in let z = y.0 in (omega (arith, z), subst (λ (n : ℕ). IsCovered d (plain (30 + n))) (sym z) y.1))
  ],
  λ h. or_of a b k (elim (earlier_one k place h.0) [
    | inl x ↦ inl ((f k).1 (x, h.1))
    | inr x ↦ inr ((g k).1 (x, subst (λ (n : ℕ). IsCovered d (plain (30 + n))) x h.1))
  ]),
)
