-- Members of lists, and lists whose numbers differ.
use Rattle.std.proofs.Common.{◌≡◌, ◌≢◌, ℕ, zero, suc, ◌+◌, ◌<◌, ◌==◌, ◌||◌, Bool, true, false, if◌then◌else◌, List, [], ◌∷◌, ◌++◌, get_or, take, drop, length, All, AllPairs, refl, sym, ap, subst, ◌∙◌, arith}
use Rattle.std.specs.Prelude.{filter}
use Rattle.std.specs.List.{AllZip}
use Rattle.std.proofs.lemmas.Bool.{eqb-true, eq-eqb}
use Rattle.std.proofs.lemmas.List.{take_more}
use Rattle.std.proofs.lemmas.List.Elements.{All-nil, All-cons, filter-append}
use Rattle.std.proofs.lemmas.List.Kept.{AllPairs-cons}
use Rattle.temp_machine.specs.Tidy.{is_among}

pub false_true : {A : Type 0} → false ≡ true → A
false_true e = absurd (let k : false ≡ true = e in cc)

pub true_false : {A : Type 0} → true ≡ false → A
true_false e = absurd (let k : true ≡ false = e in cc)

pub by_bool : {A : Type 0} (b : Bool) → (b ≡ true → A) → (b ≡ false → A) → A
by_bool true f g = f refl
by_bool false f g = g refl

pub or_left : (b c : Bool) → b ≡ true → (b || c) ≡ true
or_left b c e = subst (λ x. (x || c) ≡ true) (sym e) refl

pub or_right : (b c : Bool) → c ≡ true → (b || c) ≡ true
or_right true c e = refl
or_right false c e = e

pub or_cases : {A : Type 0} (b c : Bool) → (b || c) ≡ true → (b ≡ true → A) → (c ≡ true → A) → A
or_cases true c e f g = f refl
or_cases false c e f g = g e

pub among_here : (k : ℕ) (ks : List ℕ) → is_among k (k ∷ ks) ≡ true
among_here k ks = or_left (k == k) (is_among k ks) (eq-eqb k k refl)

pub among_left : (k : ℕ) (xs ys : List ℕ) → is_among k xs ≡ true → is_among k (xs ++ ys) ≡ true
among_left k [] ys e = false_true e
among_left k (x ∷ xs) ys e = or_cases (x == k) (is_among k xs) e (λ f. or_left (x == k) (is_among k (xs ++ ys)) f) (λ f. or_right (x == k) (is_among k (xs ++ ys)) (among_left k xs ys f))

pub among_right : (k : ℕ) (xs ys : List ℕ) → is_among k ys ≡ true → is_among k (xs ++ ys) ≡ true
among_right k [] ys e = e
among_right k (x ∷ xs) ys e = or_right (x == k) (is_among k (xs ++ ys)) (among_right k xs ys e)

among_parts : (k : ℕ) (xs ys : List ℕ) → is_among k (xs ++ ys) ≡ true → (is_among k xs || is_among k ys) ≡ true
among_parts k [] ys e = e
among_parts k (x ∷ xs) ys e =
    or_cases (x == k) (is_among k (xs ++ ys)) e (λ h. or_left (x == k || is_among k xs) (is_among k ys) (or_left (x == k) (is_among k xs) h))
    (λ h. or_cases (is_among k xs) (is_among k ys) (among_parts k xs ys h) (λ i. or_left (x == k || is_among k xs) (is_among k ys) (or_right (x == k) (is_among k xs) i))
    (λ i. or_right (x == k || is_among k xs) (is_among k ys) i))

pub among_both : {A : Type 0} (k : ℕ) (xs ys : List ℕ) → is_among k (xs ++ ys) ≡ true → (is_among k xs ≡ true → A) → (is_among k ys ≡ true → A) → A
among_both k xs ys e f g = or_cases (is_among k xs) (is_among k ys) (among_parts k xs ys e) f g

-- what holds of each member
pub all_among : (P : ℕ → Type 0) (ks : List ℕ) → ((k : ℕ) → is_among k ks ≡ true → P k) → All P ks
all_among P [] h = All-nil P
all_among P (k ∷ ks) h = All-cons P k ks (h k (among_here k ks)) (all_among P ks (λ j e. h j (or_right (k == j) (is_among j ks) e)))

-- numbers that differ

abbrev pub AreApart : List ℕ → Type 0
AreApart [] = Unit {0}
AreApart (k ∷ ks) = (is_among k ks ≡ false) × AreApart ks

not_among : (k : ℕ) (ks : List ℕ) → is_among k ks ≡ false → All (λ j. k ≢ j) ks
not_among k ks e = all_among (λ j. k ≢ j) ks (λ j f q. true_false (sym f ∙ (sym (ap (λ (n : ℕ). is_among n ks) q) ∙ e)))

pub pairs_apart : (ks : List ℕ) → AreApart ks → AllPairs (λ j k. j ≢ k) ks
pairs_apart [] a = λ i j d l h. absurd (omega (arith, h))
pairs_apart (k ∷ ks) a = AllPairs-cons (λ (j k : ℕ). j ≢ k) k ks (not_among k ks a.0) (pairs_apart ks a.1)

pub apart_more : (ks : List ℕ) (k : ℕ) → AreApart ks → is_among k ks ≡ false → AreApart (ks ++ k ∷ [])
apart_more [] k a e = (refl, tt)
apart_more (j ∷ ks) k a e = (
  by_bool (is_among j (ks ++ k ∷ [])) (λ f. among_both j ks (k ∷ []) f (λ g. true_false (sym g ∙ a.0))
      (λ g. true_false (sym (or_left (j == k) (is_among k ks) (eq-eqb j k (or_cases (k == j) false g (λ h. sym (eqb-true k j h)) false_true))) ∙ e))) (λ f. f),
  apart_more ks k a.1 (by_bool (is_among k ks) (λ f. true_false (sym (or_right (j == k) (is_among k ks) f) ∙ e)) (λ f. f)),
)

pub take_among : (k n : ℕ) (xs : List ℕ) → is_among k (take n xs) ≡ true → is_among k xs ≡ true
take_among k zero xs e = false_true e
take_among k (suc n) [] e = e
take_among k (suc n) (x ∷ xs) e = or_cases (x == k) (is_among k (take n xs)) e (λ f. or_left (x == k) _ f) (λ f. or_right (x == k) _ (take_among k n xs f))

pub drop_among : (k n : ℕ) (xs : List ℕ) → is_among k (drop n xs) ≡ true → is_among k xs ≡ true
drop_among k zero xs e = e
drop_among k (suc n) [] e = e
drop_among k (suc n) (x ∷ xs) e = or_right (x == k) _ (drop_among k n xs e)

pub take_apart : (n : ℕ) (xs : List ℕ) → AreApart xs → AreApart (take n xs)
take_apart zero xs a = tt
take_apart (suc n) [] a = tt
take_apart (suc n) (x ∷ xs) a = (
  by_bool (is_among x (take n xs)) (λ f. true_false (sym (take_among x n xs f) ∙ a.0)) (λ f. f),
  take_apart n xs a.1,
)

-- the front and the rest of a list have no number in common
pub parts_apart : (k n : ℕ) (xs : List ℕ) → AreApart xs → is_among k (take n xs) ≡ true → is_among k (drop n xs) ≡ true → ⊥
parts_apart k zero xs a e f = false_true e
parts_apart k (suc n) [] a e f = false_true e
parts_apart k (suc n) (x ∷ xs) a e f =
    or_cases (x == k) (is_among k (take n xs)) e
    (λ g. true_false (sym (drop_among k n xs f) ∙ (sym (ap (λ (y : ℕ). is_among y xs) (eqb-true x k g)) ∙ a.0))) (λ g. parts_apart k n xs a.1 g f)

-- filters

pub filter_among : (p : ℕ → Bool) (k : ℕ) (ks : List ℕ) → is_among k (filter p ks) ≡ true → (is_among k ks ≡ true) × (p k ≡ true)
filter_among p k [] e = false_true e
filter_among p k (j ∷ ks) e = by (p j) refl (filter_among p k ks) e
  where
    by : (b : Bool) → p j ≡ b → (is_among k (filter p ks) ≡ true → (is_among k ks ≡ true) × (p k ≡ true))
        → is_among k (if b then j ∷ filter p ks else filter p ks) ≡ true → (is_among k (j ∷ ks) ≡ true) × (p k ≡ true)
    by true q rest f =
        or_cases (j == k) (is_among k (filter p ks)) f (λ g. (or_left (j == k) _ g, ap p (sym (eqb-true j k g)) ∙ q))
        (λ g. (let r = rest g in (or_right (j == k) _ r.0, r.1)))
    by false q rest f = let r = rest f in (or_right (j == k) _ r.0, r.1)

pub among_filter : (p : ℕ → Bool) (k : ℕ) (ks : List ℕ) → is_among k ks ≡ true → p k ≡ true → is_among k (filter p ks) ≡ true
among_filter p k [] e q = false_true e
among_filter p k (j ∷ ks) e q = by (p j) refl (λ g. among_filter p k ks g q)
  where
    by : (b : Bool) → p j ≡ b → (is_among k ks ≡ true → is_among k (filter p ks) ≡ true) → is_among k (if b then j ∷ filter p ks else filter p ks) ≡ true
    by true r rest = or_cases (j == k) (is_among k ks) e (λ g. or_left (j == k) _ g) (λ g. or_right (j == k) _ (rest g))
    by false r rest = or_cases (j == k) (is_among k ks) e (λ g. true_false (sym q ∙ (ap p (sym (eqb-true j k g)) ∙ r))) rest

-- the next item of a loop
pub filter_next : (p : ℕ → Bool) (xs : List ℕ) (i d : ℕ) (old new : List ℕ) → i < length xs → old ≡ filter p (take i xs) → new ≡ old ++ filter p (get_or xs i d ∷ [])
    → new ≡ filter p (take (i + 1) xs)
filter_next p xs i d old new l e f =
    f ∙ (ap (λ (ys : List ℕ). ys ++ filter p (get_or xs i d ∷ [])) e
    ∙ sym (ap (filter p) (take_more xs i d l) ∙ filter-append p (take i xs) (get_or xs i d ∷ [])))

pub zip_more : {A B : Type 0} (R : A → B → Type 0) (xs : List A) (ys : List B) (x : A) (y : B) → AllZip R xs ys → R x y → AllZip R (xs ++ x ∷ []) (ys ++ y ∷ [])
zip_more R [] [] x y h r = (r, tt)
zip_more R [] (b ∷ ys) x y h r = absurd h
zip_more R (a ∷ xs) [] x y h r = absurd h
zip_more R (a ∷ xs) (b ∷ ys) x y h r = (h.0, zip_more R xs ys x y h.1 r)
