-- Where local objects stand: each scalar has a temporary of its own, each array its own bytes of the frame.
use Rattle.std.proofs.Common.{◌≡◌, ◌≢◌, ℕ, zero, suc, ◌+◌, ◌*◌, ◌≤◌, ◌<◌, List, [], ◌∷◌, Option, Some, None, refl, sym, ap, ◌∙◌, arith}
use Rattle.std.proofs.Math.Nat.{mul-le-mul_left, mul-suc, mul_comm}
use Rattle.std.specs.Prelude.{take, slice_get, unwrap_or, length}
use Rattle.c_tree.specs.declared.typed.Object.{Object}
use Rattle.c_limits.specs.Frames.{scalar_in, scalars, array_in, arrays}

same_object : (p o : Object) → Some p ≡ Some o → p ≡ o
same_object p o e = ap (λ s. unwrap_or s p) e

-- a scalar is counted behind those before it
pub scalar_below : (os : List Object) (x : ℕ) (o : Object) → slice_get os x ≡ Some o → o.length ≡ None → scalars (take x os) < scalars os
scalar_below [] x o e n = absurd (grind (arith, e))
scalar_below (p ∷ os) zero o e n = let one : scalar_in p.length ≡ 1 = ap (λ q. scalar_in q.length) (same_object p o e) ∙ ap scalar_in n in omega (arith, one)
scalar_below (p ∷ os) (suc x) o e n = let ih = scalar_below os x o e n in omega (arith, ih)

-- and before those behind it
pub scalar_before : (os : List Object) (x y : ℕ) (o : Object) → x < y → slice_get os x ≡ Some o → o.length ≡ None → scalars (take x os) < scalars (take y os)
scalar_before [] x y o lt e n = absurd (grind (arith, e))
scalar_before (p ∷ os) x zero o lt e n = absurd (omega (arith, lt))
scalar_before (p ∷ os) zero (suc y) o lt e n = let one : scalar_in p.length ≡ 1 = ap (λ q. scalar_in q.length) (same_object p o e) ∙ ap scalar_in n in omega (arith, one)
scalar_before (p ∷ os) (suc x) (suc y) o lt e n = let ih = scalar_before os x y o (omega (arith, lt)) e n in omega (arith, ih)

module _ (w : ℕ) where
  abbrev room : Object → ℕ
  room o = array_in w o.element o.length

  -- an array stands within the arrays
  pub array_within : (os : List Object) (x : ℕ) (o : Object) → slice_get os x ≡ Some o → arrays w (take x os) + room o ≤ arrays w os
  array_within [] x o e = absurd (grind (arith, e))
  array_within (p ∷ os) zero o e = let here : room p ≡ room o = ap room (same_object p o e) in omega (arith, here)
  array_within (p ∷ os) (suc x) o e = let ih = array_within os x o e in omega (arith, ih)

  -- and ends before the next one begins
  pub array_before : (os : List Object) (x y : ℕ) (o : Object) → x < y → slice_get os x ≡ Some o → arrays w (take x os) + room o ≤ arrays w (take y os)
  array_before [] x y o lt e = absurd (grind (arith, e))
  array_before (p ∷ os) x zero o lt e = absurd (omega (arith, lt))
  array_before (p ∷ os) zero (suc y) o lt e = let here : room p ≡ room o = ap room (same_object p o e) in omega (arith, here)
  array_before (p ∷ os) (suc x) (suc y) o lt e = let ih = array_before os x y o (omega (arith, lt)) e in omega (arith, ih)

-- of elements of a size, each ends before the next one begins, and within the array
pub element_before : (size i j : ℕ) → i < j → size * i + size ≤ size * j
element_before size i j lt = let z : size * suc i ≤ size * j = mul-le-mul_left size (let y : suc i ≤ j = omega (arith, lt) in y) in let e : size * suc i ≡ size * i + size = mul-suc size i in omega (arith, z, e)

pub within : (size i n : ℕ) → i < n → size * i + size ≤ n * size
within size i n lt = let z = element_before size i n lt in let e : size * n ≡ n * size = mul_comm size n in omega (arith, z, e)
