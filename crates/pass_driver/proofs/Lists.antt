-- Lists, place by place.
use Rattle.std.proofs.Common.{◌≡◌, ℕ, zero, suc, List, [], ◌∷◌, ◌++◌, Some, refl, subst}
use Rattle.std.specs.Prelude.{slice_get, All}
use Rattle.std.specs.List.{AllZip}
use Rattle.std.proofs.lemmas.List.Elements.{All-nil, All-cons, All-head, All-tail}
use Rattle.std.proofs.lemmas.Option.{same_Some, none-some}

pub all_left : {A : Type 0} (P : A → Type 0) (xs ys : List A) → All P (xs ++ ys) → All P xs
all_left P [] ys h = All-nil P
all_left P (x ∷ xs) ys h = All-cons P x xs (All-head P x (xs ++ ys) h) (all_left P xs ys (All-tail P x (xs ++ ys) h))

pub all_right : {A : Type 0} (P : A → Type 0) (xs ys : List A) → All P (xs ++ ys) → All P ys
all_right P [] ys h = h
all_right P (x ∷ xs) ys h = all_right P xs ys (All-tail P x (xs ++ ys) h)

pub all_both : {A : Type 0} (P Q : A → Type 0) (xs : List A) → All P xs → All Q xs → All (λ x. P x × Q x) xs
all_both P Q [] h k = All-nil (λ x. P x × Q x)
all_both P Q (x ∷ xs) h k =
    All-cons (λ x. P x × Q x) x xs (All-head P x xs h, All-head Q x xs k) (all_both P Q xs (All-tail P x xs h) (All-tail Q x xs k))

-- what follows of each new item from the old one that it stands for
pub all_by_zip : {A B : Type 0} (P : A → Type 0) (R : A → B → Type 0) (Q : B → Type 0) → ((x : A) (y : B) → P x → R x y → Q y)
    → (xs : List A) (ys : List B) → All P xs → AllZip R xs ys → All Q ys
all_by_zip P R Q f [] [] h z = All-nil Q
all_by_zip P R Q f (x ∷ xs) (y ∷ ys) h z = All-cons Q y ys (f x y (All-head P x xs h) z.0) (all_by_zip P R Q f xs ys (All-tail P x xs h) z.1)
all_by_zip P R Q f [] (y ∷ ys) h z = absurd z
all_by_zip P R Q f (x ∷ xs) [] h z = absurd z

pub zip_by : {A B : Type 0} (P : A → Type 0) (R S : A → B → Type 0) → ((x : A) (y : B) → P x → R x y → S x y)
    → (xs : List A) (ys : List B) → All P xs → AllZip R xs ys → AllZip S xs ys
zip_by P R S f [] [] h z = tt
zip_by P R S f (x ∷ xs) (y ∷ ys) h z = (f x y (All-head P x xs h) z.0, zip_by P R S f xs ys (All-tail P x xs h) z.1)
zip_by P R S f [] (y ∷ ys) h z = absurd z
zip_by P R S f (x ∷ xs) [] h z = absurd z

-- the old item of a new one
pub old_at : {A B : Type 0} (R : A → B → Type 0) (xs : List A) (ys : List B) (k : ℕ) (y : B) → AllZip R xs ys → slice_get ys k ≡ Some y
    → (x : A) × (slice_get xs k ≡ Some x) × R x y
old_at R (x ∷ xs) (z ∷ ys) zero y h e = (x, refl, subst (R x) (same_Some z y e) h.0)
old_at R (x ∷ xs) (z ∷ ys) (suc k) y h e = old_at R xs ys k y h.1 e
old_at R [] [] k y h e = absurd (none-some y e)
old_at R [] (z ∷ ys) k y h e = absurd h
old_at R (x ∷ xs) [] k y h e = absurd h
