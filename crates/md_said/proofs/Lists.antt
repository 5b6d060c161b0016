-- A property of each item of a list, by cases on the list.
use Rattle.std.proofs.Common.{◌≡◌, ℕ, zero, suc, ◌+◌, ◌<◌, ◌≤◌, Bool, true, false, cond, List, [], ◌∷◌, ◌++◌, length, map, flat_map, filter, filter_map, Option, Some, None, slice_get, get_or, All, take, Contains, refl, sym, subst, ap, arith, ◌∙◌}
use Rattle.std.proofs.lemmas.Option.{slice_get-get_or, slice_get_within, get_or_from_slice_get}

abbrev pub Each : {A : Type 0} → (A → Type 0) → List A → Type 0
Each P [] = Unit {0}
Each P (x ∷ xs) = P x × Each P xs

pub each_by : {A : Type 0} (P Q : A → Type 0) → ((x : A) → P x → Q x) → (xs : List A) → Each P xs → Each Q xs
each_by P Q f [] h = tt
each_by P Q f (x ∷ xs) h = (f x h.0, each_by P Q f xs h.1)

pub each_append : {A : Type 0} (P : A → Type 0) (xs ys : List A) → Each P xs → Each P ys → Each P (xs ++ ys)
each_append P [] ys h k = k
each_append P (x ∷ xs) ys h k = (h.0, each_append P xs ys h.1 k)

pub each_map : {A B : Type 0} (P : A → Type 0) (Q : B → Type 0) (f : A → B) → ((x : A) → P x → Q (f x)) → (xs : List A) → Each P xs → Each Q (map f xs)
each_map P Q f g [] h = tt
each_map P Q f g (x ∷ xs) h = (g x h.0, each_map P Q f g xs h.1)

pub each_flat_map : {A B : Type 0} (P : A → Type 0) (Q : B → Type 0) (f : A → List B) → ((x : A) → P x → Each Q (f x)) → (xs : List A) → Each P xs → Each Q (flat_map f xs)
each_flat_map P Q f g [] h = tt
each_flat_map P Q f g (x ∷ xs) h = each_append Q (f x) (flat_map f xs) (g x h.0) (each_flat_map P Q f g xs h.1)

each_cond : {A : Type 0} (P : A → Type 0) (x : A) (xs : List A) (b : Bool) → P x → Each P xs → Each P (cond b (x ∷ xs) xs)
each_cond P x xs true h k = (h, k)
each_cond P x xs false h k = k

pub each_filter : {A : Type 0} (P : A → Type 0) (test : A → Bool) (xs : List A) → Each P xs → Each P (filter test xs)
each_filter P test [] h = tt
each_filter P test (x ∷ xs) h = each_cond P x (filter test xs) (test x) h.0 (each_filter P test xs h.1)

none_some : {A : Type 0} (x : A) → None ≡ Some x → ⊥
none_some x e = cc

pub each_get : {A : Type 0} (P : A → Type 0) (xs : List A) → Each P xs → (i : ℕ) (x : A) → slice_get xs i ≡ Some x → P x
each_get P [] h i x e = absurd (none_some x e)
each_get P (y ∷ ys) h zero x e = let same : y ≡ x = cc in subst P same h.0
each_get P (y ∷ ys) h (suc i) x e = each_get P ys h.1 i x e

pub all_of_each : {A : Type 0} (P : A → Type 0) (xs : List A) → Each P xs → All P xs
all_of_each P xs h k d lt = each_get P xs h k (get_or xs k d) (slice_get-get_or xs k d lt)

pub each_of_get : {A : Type 0} (P : A → Type 0) (xs : List A) → ((i : ℕ) (x : A) → slice_get xs i ≡ Some x → P x) → Each P xs
each_of_get P [] h = tt
each_of_get P (x ∷ xs) h = (h zero x refl, each_of_get P xs (λ i y e. h (suc i) y e))
