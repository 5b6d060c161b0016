-- How often operations open a label, against how often it stands among fresh ones in a row.
use Rattle.std.proofs.Common.{◌≡◌, ℕ, zero, suc, ◌+◌, ◌≤◌, ◌<◌, ◌⊎◌, inl, inr, List, [], ◌∷◌, ◌++◌, refl, ap, arith}
use Rattle.std.proofs.lemmas.Bool.{cases_lt}
use Rattle.std.proofs.lemmas.Bool.Decides.{nat_tests}
use Rattle.std.specs.Prelude.{◌==◌, if◌then◌else◌}
use Rattle.naive_code.specs.Operations.{Op, Make, Meet, Scale, Extend, Close}
use Rattle.naive_code.specs.Functions.{numbers_from}
use Rattle.naive_builder.specs.Appending.{opened}
use Rattle.naive_builder.specs.Finished.{times}

abbrev pub point : ℕ → ℕ → ℕ
point l x = if l == x then 1 else 0

-- among so many labels from one on
abbrev pub window : ℕ → ℕ → ℕ → ℕ
window l n x = times x (numbers_from l n)

abbrev pub count : ℕ → List Op → ℕ
count x os = times x (opened os)

pub count_append : (x : ℕ) (os ps : List Op) → count x (os ++ ps) ≡ count x os + count x ps
count_append x [] ps = omega arith
count_append x (Make p o ∷ os) ps = count_append x os ps
count_append x (Meet a b ∷ os) ps = count_append x os ps
count_append x (Scale a b ∷ os) ps = count_append x os ps
count_append x (Extend a b ∷ os) ps = count_append x os ps
count_append x (Close stop l ∷ os) ps = let e = count_append x os ps in omega (arith, e)

window_append : (l n m x : ℕ) → window l (n + m) x ≡ window l n x + window (l + n) m x
window_append l zero m x =
    let same : l ≡ l + 0 = omega arith in
    let none : 0 + m ≡ m = omega arith in
    let moved : window l m x ≡ window (l + 0) m x = ap (λ (k : ℕ). window k m x) same in
    let all : window l (0 + m) x ≡ window l m x = ap (λ (k : ℕ). window l k x) none in
    omega (arith, moved, all)
window_append l (suc n) m x =
    let e = window_append (suc l) n m x in
    let same : suc l + n ≡ l + suc n = omega arith in
    let moved : window (suc l + n) m x ≡ window (l + suc n) m x = ap (λ (k : ℕ). window k m x) same in
    let more : suc n + m ≡ suc (n + m) = omega arith in
    let all : window l (suc n + m) x ≡ window l (suc (n + m)) x = ap (λ (k : ℕ). window l k x) more in
    omega (arith, e, moved, all)

-- a row of labels is cut in two
pub cut : (l n m k p x : ℕ) → k ≡ l + n → p ≡ n + m → window l p x ≡ window l n x + window k m x
cut l n m k p x e f =
    let g = window_append l n m x in
    let h : window l p x ≡ window l (n + m) x = ap (λ (i : ℕ). window l i x) f in
    let i : window k m x ≡ window (l + n) m x = ap (λ (j : ℕ). window j m x) e in
    omega (arith, g, h, i)

pub one_label : (l x : ℕ) → window l 1 x ≡ point l x
one_label l x = omega arith

pub two_labels : (l x : ℕ) → window l 2 x ≡ point l x + point (l + 1) x
two_labels l x = let e = cut l 1 1 (l + 1) 2 x refl refl in let f = one_label (l + 1) x in let g = one_label l x in omega (arith, e, f, g)

pub three_labels : (l x : ℕ) → window l 3 x ≡ point l x + point (l + 1) x + point (l + 2) x
three_labels l x = let e = cut l 2 1 (l + 2) 3 x refl refl in let f = one_label (l + 2) x in let g = two_labels l x in omega (arith, e, f, g)

pub four_labels : (l x : ℕ) → window l 4 x ≡ point l x + point (l + 1) x + point (l + 2) x + point (l + 3) x
four_labels l x = let e = cut l 3 1 (l + 3) 4 x refl refl in let f = one_label (l + 3) x in let g = three_labels l x in omega (arith, e, f, g)

-- ---- a row of labels has each once

point_above : (l x : ℕ) → x < l → point l x ≡ 0
point_above l x lt = grind (arith, nat_tests, lt)

window_above : (l n x : ℕ) → x < l → window l n x ≡ 0
window_above l zero x lt = refl
window_above l (suc n) x lt = let e = window_above (suc l) n x (omega (arith, lt)) in let p = point_above l x lt in omega (arith, e, p)

pub window_once : (l n x : ℕ) → window l n x ≤ 1
window_once l zero x = omega arith
window_once l (suc n) x = grind (arith, nat_tests, window_once (suc l) n x, window_above (suc l) n x)

pub point_here : (x : ℕ) → point x x ≡ 1
point_here x = grind (arith, nat_tests)

-- and no others

point_below : (l x : ℕ) → l < x → point l x ≡ 0
point_below l x lt = grind (arith, nat_tests, lt)

window_below : (l n x : ℕ) → l + n ≤ x → window l n x ≡ 0
window_below l zero x le = refl
window_below l (suc n) x le = let e = window_below (suc l) n x (omega (arith, le)) in let p = point_below l x (omega (arith, le)) in omega (arith, e, p)

first_of : (l n x : ℕ) → 1 ≤ window l n x → (x < l) ⊎ (l ≤ x) → l ≤ x
first_of l n x le (inl lt) = let e = window_above l n x lt in absurd (omega (arith, le, e))
first_of l n x le (inr ge) = ge

last_of : (l n x : ℕ) → 1 ≤ window l n x → (x < l + n) ⊎ (l + n ≤ x) → x < l + n
last_of l n x le (inl lt) = lt
last_of l n x le (inr ge) = let e = window_below l n x ge in absurd (omega (arith, le, e))

pub in_window : (l n x : ℕ) → 1 ≤ window l n x → (l ≤ x) × (x < l + n)
in_window l n x le = (first_of l n x le (cases_lt x l), last_of l n x le (cases_lt x (l + n)))
