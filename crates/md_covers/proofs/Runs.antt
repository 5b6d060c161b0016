-- A number hole has a run exactly where it has its ends and no gap falls within.
use Rattle.std.proofs.Common.{◌≡◌, ◌⊎◌, ℕ, zero, suc, ◌+◌, ◌-◌, ◌<◌, ◌≤◌, ◌*◌, ◌/◌, ◌^◌, Bool, true, false, cond, ◌&&◌, ◌||◌, nat_lt, nat_le, ℤ, pos, inl, inr, refl, sym, subst, ap, arith, ◌∙◌, Some, None, is_some}
use Rattle.std.proofs.Math.IntN.{negsuc}
use Rattle.std.proofs.lemmas.Bool.Decides.{nat_tests}
use Rattle.md_rows.specs.Fits.{printed}
use Rattle.std.specs.Prelude.{int_le, ◌+ℤ◌}
use Rattle.std.proofs.lemmas.Int.{ints}
use Rattle.md_covers.specs.Ranges.{has, next_above, has_run, run_test}

ors : (t s : Bool) (a b : ℤ) → is_some (cond t (Some a) (cond s (Some b) None)) ≡ (t || s)
ors true s a b = refl
ors false true a b = refl
ors false false a b = refl

or_false : (t : Bool) → (t || false) ≡ t
or_false true = refl
or_false false = refl

and_true : (t : Bool) → (t && true) ≡ t
and_true true = refl
and_true false = refl

nothing : (t : Bool) → ((t && false) || false) ≡ false
nothing true = refl
nothing false = refl

low_test : (m u l : ℕ) → u < m → nat_le (m - suc u) l ≡ nat_le m (u + l + 1)
low_test m u l e = grind (arith, nat_tests)

high_test : (m u h : ℕ) → u < m → nat_le h (m - suc u) ≡ nat_le (u + h + 1) m
high_test m u h e = grind (arith, nat_tests)

-- `has` is what `printed` says
pub member : (w : ℕ) (low high : ℤ) (u : ℕ) → u < 2 ^ w → is_some (printed w low high false u) ≡ has w low high u
member w (pos l) (pos h) u e = ors (nat_le l u && nat_le u h) false (pos u) (negsuc (2 ^ w - suc u)) ∙ or_false (nat_le l u && nat_le u h)
member w (pos l) (negsuc h) u e = ors (nat_le l u && false) false (pos u) (negsuc (2 ^ w - suc u)) ∙ nothing (nat_le l u)
member w (negsuc l) (pos h) u e =
    let x : nat_le (2 ^ w - suc u) l ≡ nat_le (2 ^ w) (u + l + 1) = low_test (2 ^ w) u l e in
    ors (nat_le u h) (nat_le (2 ^ w - suc u) l && true) (pos u) (negsuc (2 ^ w - suc u))
    ∙ ap (λ (b : Bool). nat_le u h || b) (and_true (nat_le (2 ^ w - suc u) l) ∙ x)
member w (negsuc l) (negsuc h) u e =
    let x : nat_le (2 ^ w - suc u) l ≡ nat_le (2 ^ w) (u + l + 1) = low_test (2 ^ w) u l e in
    let y : nat_le h (2 ^ w - suc u) ≡ nat_le (u + h + 1) (2 ^ w) = high_test (2 ^ w) u h e in
    ors false (nat_le (2 ^ w - suc u) l && nat_le h (2 ^ w - suc u)) (pos u) (negsuc (2 ^ w - suc u)) ∙ cc

-- in a run
split : (i q : ℕ) → (i ≤ q) ⊎ (q < i)
split zero q = inl (omega arith)
split (suc i) zero = inr (omega arith)
split (suc i) (suc q) = elim (split i q) [ inl e ↦ inl (omega (arith, e)) | inr e ↦ inr (omega (arith, e)) ]

steps : (p q step : ℕ) → p ≤ q → p * step ≤ q * step
steps p q step e = grind arith

next_first : (a step h : ℕ) → h < a → next_above a step h ≡ a
next_first a step h e = grind (arith, nat_tests)

next_later : (a step h : ℕ) → a ≤ h → next_above a step h ≡ a + ((h - a) / step + 1) * step
next_later a step h e = grind (arith, nat_tests)

-- the steps up to h are at most h, and one more passes it
up_to : (d step : ℕ) → 0 < step → d / step * step ≤ d
up_to d step s = omega arith

past : (d step : ℕ) → 0 < step → d < (d / step + 1) * step
past d step s = omega arith

gap_above : (a step h i : ℕ) → 0 < step → h < a + i * step → next_above a step h ≤ a + i * step
gap_above a step h i s e = elim (split a h) [
  | inl k ↦
      (let n = next_later a step h k in
      elim (split i ((h - a) / step)) [
        | inl j ↦ (let p = steps i ((h - a) / step) step j in let u = up_to (h - a) step s in absurd (omega (arith, p, u, k, e)))
        | inr j ↦
            (let z : (h - a) / step + 1 ≤ i = omega (arith, j) in
            let p = steps ((h - a) / step + 1) i step z in omega (arith, p, n))
      ])
  | inr k ↦ (let n = next_first a step h k in omega (arith, n))
]

all_above : (z n u m l h : ℕ) → (nat_lt z n || nat_le m (n + l + 1)) ≡ true → n ≤ u → u ≤ z → (nat_le u h || nat_le m (u + l + 1)) ≡ true
all_above z n u m l h e p q = grind (arith, nat_tests)

record Next (a step h : ℕ) : Type 0 where
  place : ℕ
  is : next_above a step h ≡ a + place * step
  above : h < next_above a step h

next_of : (a step h : ℕ) → 0 < step → Next a step h
next_of a step h s = elim (split a h) [
  | inl k ↦
      (let n = next_later a step h k in let p = past (h - a) step s in
      record { place = (h - a) / step + 1; is = n; above = omega (arith, n, p, k) })
  | inr k ↦
      (let n = next_first a step h k in
      record { place = 0; is = omega (arith, n); above = omega (arith, n, k) })
]

gap_test : (z n m l h : ℕ) → h < n → (nat_le n h || nat_le m (n + l + 1)) ≡ true → (nat_lt z n || nat_le m (n + l + 1)) ≡ true
gap_test z n m l h p e = grind (arith, nat_tests)

gap_past : (z n m l : ℕ) → z < n → (nat_lt z n || nat_le m (n + l + 1)) ≡ true
gap_past z n m l p = grind (arith, nat_tests)

-- the run a, a + step, .., a + last * step
pub run_all : (w : ℕ) (low high : ℤ) (a last step : ℕ) → 0 < step → has_run w low high a (a + last * step) step ≡ true
    → (i : ℕ) → i ≤ last → has w low high (a + i * step) ≡ true
run_all w (pos l) (pos h) a last step s e i k = let p = steps i last step k in grind (arith, nat_tests)
run_all w (negsuc l) (negsuc h) a last step s e i k = let p = steps i last step k in grind (arith, nat_tests)
run_all w (pos l) (negsuc h) a last step s e i k = e
run_all w (negsuc l) (pos h) a last step s e i k = elim (split (a + i * step) h) [
  | inl j ↦ grind (arith, nat_tests)
  | inr j ↦ (let p = gap_above a step h i s j in let q = steps i last step k in all_above (a + last * step) (next_above a step h) (a + i * step) (2 ^ w) l h e p (omega (arith, q)))
]

pub run_back : (w : ℕ) (low high : ℤ) (a last step : ℕ) → 0 < step
    → ((i : ℕ) → i ≤ last → has w low high (a + i * step) ≡ true) → has_run w low high a (a + last * step) step ≡ true
run_back w (pos l) (pos h) a last step s all =
    let x = all 0 (omega arith) in let y = all last (omega arith) in grind (arith, nat_tests)
run_back w (negsuc l) (negsuc h) a last step s all =
    let x = all 0 (omega arith) in let y = all last (omega arith) in grind (arith, nat_tests)
run_back w (pos l) (negsuc h) a last step s all = all 0 (omega arith)
run_back w (negsuc l) (pos h) a last step s all =
    let n = next_of a step h s in
    elim (split n.place last) [
      | inl j ↦
          (let x = all n.place j in
          let y : (nat_le (next_above a step h) h || nat_le (2 ^ w) (next_above a step h + l + 1)) ≡ true =
          subst (λ (u : ℕ). (nat_le u h || nat_le (2 ^ w) (u + l + 1)) ≡ true) (sym n.is) x in
          gap_test (a + last * step) (next_above a step h) (2 ^ w) l h n.above y)
      | inr j ↦
          (let p = steps (last + 1) n.place step (omega (arith, j)) in
          let i = n.is in
          gap_past (a + last * step) (next_above a step h) (2 ^ w) l (omega (arith, p, i, s)))
    ]

and_false : (t : Bool) → (t && false) ≡ false
and_false true = refl
and_false false = refl

low_int : (m l a : ℕ) → int_le (negsuc l +ℤ pos m) (pos a) ≡ nat_le m (a + l + 1)
low_int m l a = grind (arith, nat_tests, ints)

high_int : (m h z : ℕ) → int_le (pos z) (negsuc h +ℤ pos m) ≡ nat_le (z + h + 1) m
high_int m h z = grind (arith, nat_tests, ints)

pub run_is : (w : ℕ) (low high : ℤ) (a z step : ℕ) → run_test w low high a z step ≡ has_run w low high a z step
run_is w (pos l) (pos h) a z step = let e : nat_le 0 l ≡ true = grind (arith, nat_tests) in rw e refl
run_is w (pos l) (negsuc h) a z step = let e : nat_le 0 l ≡ true = grind (arith, nat_tests) in rw e (and_false (nat_le l a))
run_is w (negsuc l) (negsuc h) a z step =
    let x = low_int (2 ^ w) l a in let y = high_int (2 ^ w) h z in rw (x, y) refl
run_is w (negsuc l) (pos h) a z step =
    let x = low_int (2 ^ w) l (next_above a step h) in let n : nat_lt h 0 ≡ false = grind (arith, nat_tests) in rw (n, x) refl
