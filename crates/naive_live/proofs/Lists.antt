-- Lists of temporaries whose depths fall from the first on, and rows of numbers of which something is known one by one.
use Rattle.std.proofs.Common.{◌≡◌, inl, inr, ℕ, zero, suc, ◌+◌, ◌<◌, ◌≤◌, List, [], ◌∷◌, ◌++◌, Option, Some, None, refl, sym, ap, ◌∙◌, subst, arith}
use Rattle.std.specs.Prelude.{length, slice_get}
use Rattle.naive_live.specs.Live.{Has, Within, AreApart}

some_same : {A : Type 0} (x y : A) → Some x ≡ Some y → x ≡ y
some_same x y e = cc

no_some : {A : Type 0} (x : A) → None ≡ Some x → ⊥
no_some x e = cc

-- ---- lists

pub within_same : (xs : List ℕ) → Within xs xs
within_same xs i h = h

pub within_rest : (x : ℕ) (xs : List ℕ) → Within xs (x ∷ xs)
within_rest x xs i h = inr h

pub within_then : (xs ys zs : List ℕ) → Within xs ys → Within ys zs → Within xs zs
within_then xs ys zs h k i m = k i (h i m)

pub within_first : (x : ℕ) (xs ys : List ℕ) → Has ys x → Within xs ys → Within (x ∷ xs) ys
within_first x xs ys k h i (inl e) = subst (Has ys) (sym e) k
within_first x xs ys k h i (inr m) = h i m

pub within_as : (xs ys zs : List ℕ) → xs ≡ ys → Within ys zs → Within xs zs
within_as xs ys zs e h = subst (λ (us : List ℕ). Within us zs) (sym e) h

module _ (depth : ℕ → Option ℕ) where
  -- the depths fall, from below a number on
  abbrev pub Below : ℕ → List ℕ → Type 0
  Below n [] = Unit {0}
  Below n (x ∷ xs) = (d : ℕ) × (depth x ≡ Some d) × (d < n) × Below d xs

  pub below_more : (m n : ℕ) (xs : List ℕ) → m ≤ n → Below m xs → Below n xs
  below_more m n [] le h = tt
  below_more m n (x ∷ xs) le h = (h.0, h.1, (let e = h.2 in omega (arith, e, le)), h.3)

  -- one deeper on top
  pub stacked : (d x : ℕ) (xs : List ℕ) → depth x ≡ Some d → Below d xs → Below (d + 1) (x ∷ xs)
  stacked d x xs e h = (d, e, omega arith, h)

  deep_below : (n : ℕ) (xs : List ℕ) → Below n xs → (i : ℕ) → Has xs i → (d : ℕ) × (depth i ≡ Some d) × (d < n)
  deep_below n [] h i k = absurd k
  deep_below n (x ∷ xs) h i (inl e) = (h.0, subst (λ (y : ℕ). depth y ≡ Some h.0) (sym e) h.1, h.2)
  deep_below n (x ∷ xs) h i (inr k) =
      let b = deep_below h.0 xs h.3 i k in let lt = b.2 in let le = h.2 in (b.0, b.1, omega (arith, lt, le))

  differ : (x d : ℕ) (xs : List ℕ) → depth x ≡ Some d → Below d xs → (j : ℕ) → Has xs j → depth x ≡ depth j → ⊥
  differ x d xs e h j k same =
      let b = deep_below d xs h j k in let lt = b.2 in
      let q : d ≡ b.0 = some_same d b.0 (sym e ∙ (same ∙ b.1)) in omega (arith, lt, q)

  apart_by : (n : ℕ) (xs : List ℕ) → Below n xs → (i j : ℕ) → Has xs i → Has xs j → depth i ≡ depth j → i ≡ j
  apart_by n [] h i j k l e = absurd k
  apart_by n (x ∷ xs) h i j (inl p) (inl q) e = p ∙ sym q
  apart_by n (x ∷ xs) h i j (inl p) (inr l) e = absurd (differ x h.0 xs h.1 h.3 j l (ap depth (sym p) ∙ e))
  apart_by n (x ∷ xs) h i j (inr k) (inl q) e = absurd (differ x h.0 xs h.1 h.3 i k (ap depth (sym q) ∙ sym e))
  apart_by n (x ∷ xs) h i j (inr k) (inr l) e = apart_by h.0 xs h.3 i j k l e

  pub apart_below : (n : ℕ) (xs : List ℕ) → Below n xs → AreApart depth xs
  apart_below n xs h = record { deep = λ i k. (let b = deep_below n xs h i k in (b.0, b.1)); apart = apart_by n xs h }

  -- one on top stands apart
  pub fresh : (d x : ℕ) (xs : List ℕ) → depth x ≡ Some d → Below d xs → AreApart depth (x ∷ xs)
  fresh d x xs e h = apart_below (d + 1) (x ∷ xs) (stacked d x xs e h)

  pub apart_within : (xs ys : List ℕ) → Within xs ys → AreApart depth ys → AreApart depth xs
  apart_within xs ys h a = record { deep = λ i k. a.deep i (h i k); apart = λ i j k l e. a.apart i j (h i k) (h j l) e }

-- ---- rows

module _ (A : Type 0) (P : ℕ → A → Type 0) where
  -- the first of a list belongs to a number, the second to the next one, and so on
  abbrev pub At : ℕ → List A → Type 0
  At n [] = Unit {0}
  At n (x ∷ xs) = P n x × At (suc n) xs

  pub at_as : (n m : ℕ) (xs : List A) → n ≡ m → At n xs → At m xs
  at_as n m xs e h = subst (λ (k : ℕ). At k xs) e h

  pub at_first : (xs ys : List A) (n : ℕ) → At n (xs ++ ys) → At n xs
  at_first [] ys n h = tt
  at_first (x ∷ xs) ys n h = (h.0, at_first xs ys (suc n) h.1)

  pub at_second : (xs ys : List A) (n m : ℕ) → length xs ≡ m → At n (xs ++ ys) → At (n + m) ys
  at_second [] ys n m e h = let q : n ≡ n + m = omega (arith, e) in at_as n (n + m) ys q h
  at_second (x ∷ xs) ys n m e h =
      let q : suc n + length xs ≡ n + m = omega (arith, e) in
      at_as (suc n + length xs) (n + m) ys q (at_second xs ys (suc n) (length xs) refl h.1)

  pub at_get : (k : ℕ) (xs : List A) (n : ℕ) (x : A) → slice_get xs k ≡ Some x → At n xs → P (n + k) x
  at_get k [] n x e h = absurd (no_some x e)
  at_get zero (y ∷ ys) n x e h =
      let q : n ≡ n + 0 = omega arith in subst (λ (j : ℕ). P j x) q (subst (P n) (some_same y x e) h.0)
  at_get (suc k) (y ∷ ys) n x e h =
      let q : suc n + k ≡ n + suc k = omega arith in subst (λ (j : ℕ). P j x) q (at_get k ys (suc n) x e h.1)
