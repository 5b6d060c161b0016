-- Names that are among others.
use Rattle.std.proofs.Common.{◌≡◌, ◌≢◌, ℕ, ◌≤◌, Bool, true, false, ◌||◌, if◌then◌else◌, List, [], ◌∷◌, ◌++◌, length, Contains, AllPairs, refl, sym, ap, ◌∙◌}
use Rattle.std.specs.Cmp.{IsEquivalence}
use Rattle.std.specs.List.{list_any}
use Rattle.std.specs.Str.{bytes_eq}
use Rattle.std.proofs.lemmas.Bool.Decides.{same_from_decides}
use Rattle.std.proofs.lemmas.List.Folds.{list_any-append}
use Rattle.std.proofs.lemmas.Map.Made.{IsDistinct-from_AllPairs, length-le_from_is_member, is_member-Decides}
use Rattle.std.proofs.lemmas.Slice.Eq.{bytes_eq-Decides}
use Rattle.asm_program.specs.Places.{with_name, with_names}

pub is_equivalence : IsEquivalence bytes_eq
is_equivalence =
    record {
      refl = λ x. (bytes_eq-Decides x x).1 refl;
      symm = λ x y. same_from_decides (bytes_eq x y) (bytes_eq y x) (bytes_eq-Decides x y) ((λ e. sym ((bytes_eq-Decides y x).0 e)), λ e. (bytes_eq-Decides y x).1 (sym e));
      congr = λ x y z e. ap (λ (w : List ℕ). bytes_eq w z) ((bytes_eq-Decides x y).0 e);
    }

abbrev pub is_among : List (List ℕ) → List ℕ → Bool
is_among names x = list_any (bytes_eq x) names

-- different names that are all among others are no more
pub no_more : (ns ms : List (List ℕ)) → AllPairs (λ m n. m ≢ n) ns → ((x : List ℕ) → Contains ns x → is_among ms x ≡ true) → length ns ≤ length ms
no_more ns ms d h =
    length-le_from_is_member is_equivalence ns ms (IsDistinct-from_AllPairs bytes_eq-Decides ns d) (λ q e. h q ((is_member-Decides bytes_eq-Decides ns q).0 e))

or_true : (b c : Bool) → b ≡ true → (b || c) ≡ true
or_true true c e = refl
or_true false c e = absurd (cc)

last_true : (b c : Bool) → c ≡ true → (b || (c || false)) ≡ true
last_true true c e = refl
last_true false true e = refl
last_true false false e = absurd (cc)

by_known : (b : Bool) (names : List (List ℕ)) (y x : List ℕ) → is_among names x ≡ true → is_among (if b then names else names ++ y ∷ []) x ≡ true
by_known true names y x e = e
by_known false names y x e = list_any-append (bytes_eq x) names (y ∷ []) ∙ or_true (is_among names x) (is_among (y ∷ []) x) e

-- what is among names stays so
pub stays_among : (xs names : List (List ℕ)) (x : List ℕ) → is_among names x ≡ true → is_among (with_names names xs) x ≡ true
stays_among [] names x e = e
stays_among (y ∷ ys) names x e = stays_among ys (with_name names y) x (by_known (is_among names y) names y x e)

by_new : (b : Bool) (names : List (List ℕ)) (x : List ℕ) → is_among names x ≡ b → is_among (if b then names else names ++ x ∷ []) x ≡ true
by_new true names x e = e
by_new false names x e = list_any-append (bytes_eq x) names (x ∷ []) ∙ last_true (is_among names x) (bytes_eq x x) ((bytes_eq-Decides x x).1 refl)

-- a name that is added is among them
pub is_added : (names : List (List ℕ)) (x : List ℕ) → is_among (with_name names x) x ≡ true
is_added names x = by_new (is_among names x) names x refl
