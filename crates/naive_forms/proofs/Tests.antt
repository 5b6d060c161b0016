-- Tests over lists, and lists of which each element has a property.
use Rattle.std.proofs.Common.{◌≡◌, ℕ, zero, suc, List, [], ◌∷◌, ◌++◌, map, Some, refl, sym, ap, subst, ◌∙◌, arith, true, false}
use Rattle.std.specs.Prelude.{Bool, ◌==◌, ◌&&◌, ◌||◌, slice_get}
use Rattle.std.specs.List.{AllByRecursion, list_any}
use Rattle.std.proofs.lemmas.Bool.Decides.{nat_tests}
use Rattle.std.proofs.lemmas.Option.{none-some, same_Some}

pub unlike : true ≡ false → ⊥
unlike e = cc

pub clash : (b : Bool) → b ≡ true → b ≡ false → ⊥
clash b e f = unlike (sym e ∙ f)

pub and_right : (a b : Bool) → (a && b) ≡ true → b ≡ true
and_right true b e = e
and_right false b e = absurd (unlike (sym e))

pub or_neither : (a b : Bool) → (a || b) ≡ false → (a ≡ false) × (b ≡ false)
or_neither true b e = absurd (unlike e)
or_neither false b e = (refl, e)

pub itself : (n : ℕ) → (n == n) ≡ true
itself n = grind (arith, nat_tests)

pub same_number : (m n : ℕ) → (m == n) ≡ true → m ≡ n
same_number m n e = grind (arith, nat_tests, e)

pub unequal : (m n : ℕ) → (m == n) ≡ false → m ≡ n → ⊥
unequal m n e f = grind (arith, nat_tests, e, f)

module _ {A : Type 0} where
  pub any_weaker : (p q : A → Bool) → ((x : A) → p x ≡ true → q x ≡ true) → (xs : List A) → list_any p xs ≡ true → list_any q xs ≡ true
  any_weaker p q h [] e = e
  any_weaker p q h (x ∷ xs) e = by (p x) refl (any_weaker p q h xs) e
    where
      later : (c : Bool) → list_any q xs ≡ true → (c || list_any q xs) ≡ true
      later true g = refl
      later false g = g

      by : (b : Bool) → p x ≡ b → (list_any p xs ≡ true → list_any q xs ≡ true) → (b || list_any p xs) ≡ true → (q x || list_any q xs) ≡ true
      by true f more g = ap (λ (c : Bool). c || list_any q xs) (h x f)
      by false f more g = later (q x) (more g)

  -- what is tested somewhere has what each of a list has where it is tested
  pub any_has : (p : A → Bool) (X : Type 0) (xs : List A) → AllByRecursion (λ x. p x ≡ true → X) xs → list_any p xs ≡ true → X
  any_has p X [] h e = absurd (unlike (sym e))
  any_has p X (x ∷ xs) h e = by (p x) refl (any_has p X xs h.1) e
    where
      by : (b : Bool) → p x ≡ b → (list_any p xs ≡ true → X) → (b || list_any p xs) ≡ true → X
      by true f more g = h.0 f
      by false f more g = more g

  pub none_any : (p : A → Bool) (xs : List A) → AllByRecursion (λ x. p x ≡ false) xs → list_any p xs ≡ false
  none_any p [] h = refl
  none_any p (x ∷ xs) h = ap (λ (b : Bool). b || list_any p xs) h.0 ∙ none_any p xs h.1

  pub each_weaker : (P Q : A → Type 0) → ((x : A) → P x → Q x) → (xs : List A) → AllByRecursion P xs → AllByRecursion Q xs
  each_weaker P Q f [] h = tt
  each_weaker P Q f (x ∷ xs) h = (f x h.0, each_weaker P Q f xs h.1)

  pub each_append : (P : A → Type 0) (xs ys : List A) → AllByRecursion P xs → AllByRecursion P ys → AllByRecursion P (xs ++ ys)
  each_append P [] ys g h = h
  each_append P (x ∷ xs) ys g h = (g.0, each_append P xs ys g.1 h)

  pub each_at : (P : A → Type 0) (xs : List A) (k : ℕ) (x : A) → AllByRecursion P xs → slice_get xs k ≡ Some x → P x
  each_at P [] k x h e = absurd (none-some x e)
  each_at P (y ∷ ys) zero x h e = subst P (same_Some y x e) h.0
  each_at P (y ∷ ys) (suc k) x h e = each_at P ys k x h.1 e

module _ {A B : Type 0} (f : A → B) (P : B → Type 0) where
  -- of what is made of each element
  pub mapped_append : (xs ys : List A) → AllByRecursion P (map f xs) → AllByRecursion P (map f ys) → AllByRecursion P (map f (xs ++ ys))
  mapped_append [] ys g h = h
  mapped_append (x ∷ xs) ys g h = (g.0, mapped_append xs ys g.1 h)
