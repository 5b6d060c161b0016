-- Positions in lists, and of the blocks of labels.
use Rattle.std.proofs.Common.{◌≡◌, ◌⊎◌, inl, inr, ℕ, zero, suc, ◌+◌, ◌≤◌, ◌<◌, Bool, true, false, List, [], ◌∷◌, ◌++◌, map, length, slice_get, Some, refl, ap, ◌∙◌, subst, arith}
use Rattle.std.specs.Prelude.{◌==◌, if◌then◌else◌, Contains}
use Rattle.std.proofs.lemmas.Bool.Decides.{nat_tests}
use Rattle.std.proofs.lemmas.Option.{same_Some, slice_get_within, get_or_from_slice_get}
use Rattle.temp_machine.specs.Routines.{BasicBlock}
use Rattle.temp_machine.specs.Machine.{position}
use Rattle.naive_builder.specs.Finished.{times}

-- ---- in lists

pub nowhere : {A : Type 0} (k : ℕ) (x : A) → slice_get [] k ≡ Some x → ⊥
nowhere k x e = let l = slice_get_within [] k x e in absurd (omega (arith, l))

pub contains_at : {A : Type 0} (xs : List A) (k : ℕ) (x : A) → slice_get xs k ≡ Some x → Contains xs x
contains_at xs k x e = (k, slice_get_within xs k x e, get_or_from_slice_get xs k x x e)

pub one_of : (x y : ℕ) → Contains (x ∷ []) y → x ≡ y
one_of x y (zero, lt, e) = e
one_of x y (suc k, lt, e) = absurd (omega (arith, lt))

pub two_of : (x z y : ℕ) → Contains (x ∷ z ∷ []) y → (x ≡ y) ⊎ (z ≡ y)
two_of x z y (zero, lt, e) = inl e
two_of x z y (suc zero, lt, e) = inr e
two_of x z y (suc (suc k), lt, e) = absurd (omega (arith, lt))

pub get_left : {A : Type 0} (xs ys : List A) (k : ℕ) (x : A) → k < length xs → slice_get (xs ++ ys) k ≡ Some x → slice_get xs k ≡ Some x
get_left [] ys k x lt h = absurd (omega (arith, lt))
get_left (y ∷ xs) ys zero x lt h = h
get_left (y ∷ xs) ys (suc k) x lt h = get_left xs ys k x (omega (arith, lt)) h

pub get_right : {A : Type 0} (xs ys : List A) (k j : ℕ) (x : A) → k ≡ length xs + j → slice_get (xs ++ ys) k ≡ Some x → slice_get ys j ≡ Some x
get_right [] ys k j x e h = let same : k ≡ j = omega (arith, e) in subst (λ (i : ℕ). slice_get ys i ≡ Some x) same h
get_right (y ∷ xs) ys zero j x e h = absurd (omega (arith, e))
get_right (y ∷ xs) ys (suc k) j x e h = get_right xs ys k j x (omega (arith, e)) h

pub put_right : {A : Type 0} (xs ys : List A) (k j : ℕ) (x : A) → k ≡ length xs + j → slice_get ys j ≡ Some x → slice_get (xs ++ ys) k ≡ Some x
put_right [] ys k j x e h = let same : j ≡ k = omega (arith, e) in subst (λ (i : ℕ). slice_get ys i ≡ Some x) same h
put_right (y ∷ xs) ys zero j x e h = absurd (omega (arith, e))
put_right (y ∷ xs) ys (suc k) j x e h = put_right xs ys k j x (omega (arith, e)) h

-- ---- of labels

abbrev pub labels_in : List BasicBlock → List ℕ
labels_in bs = map (λ b. b.label) bs

if_true : {A : Type 0} (q : Bool) (x y : A) → q ≡ true → (if q then x else y) ≡ x
if_true true x y e = refl
if_true false x y e = absurd cc

equal : (m n : ℕ) → m ≡ n → (m == n) ≡ true
equal m n e = grind (arith, nat_tests, e)

same_number : (m n : ℕ) → (m == n) ≡ true → m ≡ n
same_number m n e = grind (arith, nat_tests, e)

counted : (ls : List ℕ) (l k : ℕ) → slice_get ls k ≡ Some l → 1 ≤ times l ls
counted [] l k e = absurd (nowhere k l e)
counted (y ∷ ls) l zero e =
    let one : times l (y ∷ ls) ≡ 1 + times l ls = ap (λ (n : ℕ). n + times l ls) (if_true (y == l) 1 0 (equal y l (same_Some _ _ e))) in omega (arith, one)
counted (y ∷ ls) l (suc k) e = let h : 1 ≤ times l ls = counted ls l k e in omega (arith, h)

placed_by : (q : Bool) (n k t p : ℕ) → (if q then 1 else 0) + t ≤ 1 → 1 ≤ t → p ≡ suc n + k → (if q then n else p) ≡ n + suc k
placed_by true n k t p le ge e = absurd (omega (arith, le, ge))
placed_by false n k t p le ge e = omega (arith, e)

-- a label that stands once leads to the block that has it
pub placed : (bs : List BasicBlock) (l n k : ℕ) → slice_get (labels_in bs) k ≡ Some l → times l (labels_in bs) ≤ 1 → position bs l n ≡ n + k
placed [] l n k e le = absurd (nowhere k l e)
placed (b ∷ bs) l n zero e le = if_true (b.label == l) n (position bs l (suc n)) (equal b.label l (same_Some _ _ e)) ∙ omega arith
placed (b ∷ bs) l n (suc k) e le =
    let most : times l (labels_in (b ∷ bs)) ≤ 1 = le in
    placed_by (b.label == l) n k (times l (labels_in bs)) (position bs l (suc n)) le (counted (labels_in bs) l k e)
    (placed bs l (suc n) k e (omega (arith, most)))

abbrev pub IsFoundAt : List BasicBlock → (l n p : ℕ) → Type 0
IsFoundAt bs l n p = (j : ℕ) × (p ≡ n + j) × (slice_get (labels_in bs) j ≡ Some l)

found_by : (q : Bool) (b : BasicBlock) (bs : List BasicBlock) (l n : ℕ) → (b.label == l) ≡ q
    → (position bs l (suc n) < suc n + length bs → IsFoundAt bs l (suc n) (position bs l (suc n)))
    → (if q then n else position bs l (suc n)) < n + suc (length bs) → IsFoundAt (b ∷ bs) l n (if q then n else position bs l (suc n))
found_by true b bs l n e found lt = (0, omega arith, ap Some (same_number b.label l e))
found_by false b bs l n e found lt =
    let h = found (omega (arith, lt)) in let is : position bs l (suc n) ≡ suc n + h.0 = h.1 in (suc h.0, omega (arith, is), h.2)

-- a position before the end is that of a block with the label
pub found : (bs : List BasicBlock) (l n : ℕ) → position bs l n < n + length bs → IsFoundAt bs l n (position bs l n)
found [] l n lt = absurd (omega (arith, lt))
found (b ∷ bs) l n lt = found_by (b.label == l) b bs l n refl (λ h. found bs l (suc n) h) lt
