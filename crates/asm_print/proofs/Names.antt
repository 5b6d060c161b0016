-- The different names on some lines are no more than the names that there are.
use Rattle.std.proofs.Common.{◌≡◌, ◌⊎◌, inl, inr, ℕ, zero, suc, ◌<◌, ◌≤◌, Bool, true, false, cond, ◌||◌, List, [], ◌∷◌, ◌++◌, length, map, Option, Some, slice_get, unwrap_or, All, Contains, refl, sym, ap, subst, ◌∙◌, arith, length-append}
use Rattle.std.specs.List.{list_any}
use Rattle.std.specs.Str.{bytes_eq}
use Rattle.std.proofs.lemmas.Slice.Eq.{bytes_eq-Decides}
use Rattle.asm_program.specs.TextLines.{Said}
use Rattle.asm_program.specs.Places.{symbols_on, with_name, with_names}
use Rattle.asm_print.proofs.Weaving.{Each}

abbrev pub Has : List (List ℕ) → List ℕ → Type 0
Has [] x = ⊥
Has (y ∷ ys) x = (y ≡ x) ⊎ Has ys x

abbrev pub NoneTwice : List (List ℕ) → Type 0
NoneTwice [] = Unit {0}
NoneTwice (x ∷ xs) = (Has xs x → ⊥) × NoneTwice xs

pub has_left : (xs ys : List (List ℕ)) (x : List ℕ) → Has xs x → Has (xs ++ ys) x
has_left [] ys x h = absurd h
has_left (z ∷ xs) ys x (inl e) = inl e
has_left (z ∷ xs) ys x (inr h) = inr (has_left xs ys x h)

pub has_right : (xs ys : List (List ℕ)) (x : List ℕ) → Has ys x → Has (xs ++ ys) x
has_right [] ys x h = h
has_right (z ∷ xs) ys x h = inr (has_right xs ys x h)

-- without one of them

abbrev without : (xs : List (List ℕ)) (x : List ℕ) → Has xs x → List (List ℕ)
without [] x h = []
without (y ∷ ys) x (inl e) = ys
without (y ∷ ys) x (inr h) = y ∷ without ys x h

one_less : (xs : List (List ℕ)) (x : List ℕ) (h : Has xs x) → length xs ≡ suc (length (without xs x h))
one_less [] x h = absurd h
one_less (y ∷ ys) x (inl e) = refl
one_less (y ∷ ys) x (inr h) = ap suc (one_less ys x h)

others_kept : (xs : List (List ℕ)) (x : List ℕ) (h : Has xs x) (z : List ℕ) → (x ≡ z → ⊥) → Has xs z → Has (without xs x h) z
others_kept [] x h z n k = absurd h
others_kept (y ∷ ys) x (inl e) z n (inl f) = absurd (n (sym e ∙ f))
others_kept (y ∷ ys) x (inl e) z n (inr k) = k
others_kept (y ∷ ys) x (inr h) z n (inl f) = inl f
others_kept (y ∷ ys) x (inr h) z n (inr k) = inr (others_kept ys x h z n k)

pub no_more : (ns xs : List (List ℕ)) → NoneTwice ns → ((x : List ℕ) → Has ns x → Has xs x) → length ns ≤ length xs
no_more [] xs t f = omega arith
no_more (n ∷ ns) xs t f =
    let at : Has xs n = f n (inl refl) in
    let fewer = no_more ns (without xs n at) t.1 (λ z h. others_kept xs n at z (λ e. t.0 (subst (Has ns) (sym e) h)) (f z (inr h))) in
    let e = one_less xs n at in
    omega (arith, fewer, e)

-- a name that is added

found_by : (names : List (List ℕ)) (x : List ℕ) → Has names x → list_any (bytes_eq x) names ≡ true
found_by [] x h = absurd h
found_by (y ∷ ys) x (inl e) = first (bytes_eq x y) (list_any (bytes_eq x) ys) ((bytes_eq-Decides x y).1 (sym e))
  where
    first : (a b : Bool) → a ≡ true → (a || b) ≡ true
    first a b q = ap (λ (c : Bool). c || b) q
found_by (y ∷ ys) x (inr h) = later (bytes_eq x y) (list_any (bytes_eq x) ys) (found_by ys x h)
  where
    later : (a b : Bool) → b ≡ true → (a || b) ≡ true
    later true b q = refl
    later false b q = q

push_apart : (names : List (List ℕ)) (x : List ℕ) → NoneTwice names → (Has names x → ⊥) → NoneTwice (names ++ x ∷ [])
push_apart [] x t n = ((λ h. h), tt)
push_apart (y ∷ ys) x t n =
    ((λ h. last ys y h (t.0) (λ e. n (inl e))), push_apart ys x t.1 (λ h. n (inr h)))
  where
    last : (zs : List (List ℕ)) (y : List ℕ) → Has (zs ++ x ∷ []) y → (Has zs y → ⊥) → (y ≡ x → ⊥) → ⊥
    last [] y (inl e) f g = g (sym e)
    last [] y (inr h) f g = h
    last (z ∷ zs) y (inl e) f g = f (inl e)
    last (z ∷ zs) y (inr h) f g = last zs y h (λ k. f (inr k)) g

push_has : (names : List (List ℕ)) (x z : List ℕ) → Has (names ++ x ∷ []) z → Has names z ⊎ (x ≡ z)
push_has [] x z (inl e) = inr e
push_has [] x z (inr h) = absurd h
push_has (y ∷ ys) x z (inl e) = inl (inl e)
push_has (y ∷ ys) x z (inr h) = elim (push_has ys x z h) [ inl k ↦ inl (inr k) | inr e ↦ inr e ]

-- different names, each of these
pub record AreNamesIn (all names : List (List ℕ)) : Type 0 where
  pub apart : NoneTwice names
  pub known : (x : List ℕ) → Has names x → Has all x

module _ (all : List (List ℕ)) where
  add_by : (b : Bool) (names : List (List ℕ)) (x : List ℕ) → list_any (bytes_eq x) names ≡ b → AreNamesIn all names → Has all x → AreNamesIn all (cond b names (names ++ x ∷ []))
  add_by true names x e a h = a
  add_by false names x e a h = record {
    apart = push_apart names x a.apart (λ k. no (sym (found_by names x k) ∙ e));
    known = λ z k. elim (push_has names x z k) [ inl q ↦ a.known z q | inr q ↦ subst (Has all) q h ];
  }
    where
      no : true ≡ false → ⊥
      no e = cc

  add_name : (names : List (List ℕ)) (x : List ℕ) → AreNamesIn all names → Has all x → AreNamesIn all (with_name names x)
  add_name names x a h = add_by (list_any (bytes_eq x) names) names x refl a h

  add_names : (names xs : List (List ℕ)) → AreNamesIn all names → ((x : List ℕ) → Has xs x → Has all x) → AreNamesIn all (with_names names xs)
  add_names names [] a f = a
  add_names names (x ∷ xs) a f = add_names (with_name names x) xs (add_name names x a (f x (inl refl))) (λ z h. f z (inr h))

  -- each symbol of a line is one of these
  abbrev pub HasKnownSymbols : Said → Type 0
  HasKnownSymbols s = (x : List ℕ) → Has (symbols_on s) x → Has all x

  abbrev pub names_after : List (List ℕ) → List Said → List (List ℕ)
  names_after names [] = names
  names_after names (s ∷ ss) = names_after (with_names names (symbols_on s)) ss

  pub names_known : (names : List (List ℕ)) (ss : List Said) → AreNamesIn all names → Each HasKnownSymbols ss → AreNamesIn all (names_after names ss)
  names_known names [] a h = a
  names_known names (s ∷ ss) a h = names_known (with_names names (symbols_on s)) ss (add_names names (symbols_on s) a h.0) h.1

-- names are not lost

more_names : (names : List (List ℕ)) (x : List ℕ) → length names ≤ length (with_name names x)
more_names names x = by (list_any (bytes_eq x) names)
  where
    by : (b : Bool) → length names ≤ length (cond b names (names ++ x ∷ []))
    by true = omega arith
    by false = omega (arith, length-append names (x ∷ []))

pub all_more_names : (names xs : List (List ℕ)) → length names ≤ length (with_names names xs)
all_more_names names [] = omega arith
all_more_names names (x ∷ xs) = let a = more_names names x in let b = all_more_names (with_name names x) xs in omega (arith, a, b)

-- names by their places

abbrev pub name_or : (xs : List (List ℕ)) (k : ℕ) → List ℕ
name_or xs k = unwrap_or (slice_get xs k) []

pub some_name : (xs : List (List ℕ)) (k : ℕ) → k < length xs → slice_get xs k ≡ Some (name_or xs k)
some_name [] k h = absurd (omega (arith, h))
some_name (x ∷ xs) zero h = refl
some_name (x ∷ xs) (suc k) h = some_name xs k (let q : suc k < suc (length xs) = h in omega arith)

pub name_is : (xs : List (List ℕ)) (k : ℕ) (s : List ℕ) → slice_get xs k ≡ Some s → name_or xs k ≡ s
name_is xs k s e = ap (λ (o : Option (List ℕ)). unwrap_or o []) e

pub length_map : {A B : Type 0} (f : A → B) (xs : List A) → length (map f xs) ≡ length xs
length_map f [] = refl
length_map f (x ∷ xs) = ap suc (length_map f xs)

pub all_contains : {A : Type 0} (P : A → Type 0) (xs : List A) (x : A) → All P xs → Contains xs x → P x
all_contains P xs x h c = subst P c.2 (h c.0 x c.1)
