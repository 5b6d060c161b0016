-- Items of lists.
use Rattle.std.proofs.Common.{◌≡◌, ◌⊎◌, inl, inr, Bool, true, false, ◌||◌, ◌&&◌, List, [], ◌∷◌, ◌++◌, map, refl}
use Rattle.std.specs.List.{list_any}

pub data In {A : Type 0} : A → List A → Type 0 where
  here : (x : A) (xs : List A) → In x (x ∷ xs)
  there : (x y : A) (xs : List A) → In x xs → In x (y ∷ xs)

pub none_in : {A : Type 0} {x : A} → In x [] → ⊥
none_in i = elim i [ ]

pub or_cases : (a b : Bool) → (a || b) ≡ true → (a ≡ true) ⊎ (b ≡ true)
or_cases true b e = inl refl
or_cases false b e = inr e

pub or_left : (a b : Bool) → a ≡ true → (a || b) ≡ true
or_left a b e = cc

pub or_right : (a b : Bool) → b ≡ true → (a || b) ≡ true
or_right true b e = refl
or_right false b e = e

pub both : (a b : Bool) → a ≡ true → b ≡ true → (a && b) ≡ true
both a b e f = cc

pub any_in : {A : Type 0} (f : A → Bool) (xs : List A) → list_any f xs ≡ true → (x : A) × In x xs × (f x ≡ true)
any_in f [] e = absurd (never e)
  where
    never : false ≡ true → ⊥
    never e = cc
any_in f (x ∷ xs) e = elim (or_cases (f x) (list_any f xs) e) [
  | inl p ↦ (x, here x xs, p)
  | inr q ↦ (let k = any_in f xs q in (k.0, there k.0 x xs k.1, k.2))
]

pub in_any : {A : Type 0} (f : A → Bool) (xs : List A) (x : A) → In x xs → f x ≡ true → list_any f xs ≡ true
in_any f _ _ (here x xs) e = or_left (f x) (list_any f xs) e
in_any f _ _ (there x y xs i) e = or_right (f y) (list_any f xs) (in_any f xs x i e)

pub in_front : {A : Type 0} (xs ys : List A) (x : A) → In x xs → In x (xs ++ ys)
in_front _ ys _ (here x xs) = here x (xs ++ ys)
in_front _ ys _ (there x y xs i) = there x y (xs ++ ys) (in_front xs ys x i)

pub in_back : {A : Type 0} (xs ys : List A) (x : A) → In x ys → In x (xs ++ ys)
in_back [] ys x i = i
in_back (y ∷ xs) ys x i = there x y (xs ++ ys) (in_back xs ys x i)

pub in_map : {A B : Type 0} (f : A → B) (xs : List A) (x : A) → In x xs → In (f x) (map f xs)
in_map f _ _ (here x xs) = here (f x) (map f xs)
in_map f _ _ (there x y xs i) = there (f x) (f y) (map f xs) (in_map f xs x i)
