-- Names of functions that no object has.
use Rattle.std.proofs.Common.{◌≡◌, ℕ, ◌+◌, ◌<◌, ◌≤◌, nat_lt, Bool, true, false, List, length, slice_get, Some, refl, ap, subst, ◌∙◌, arith}
use Rattle.std.specs.Prelude.{Contains}
use Rattle.std.proofs.lemmas.Bool.Decides.{nat_tests}
use Rattle.std.proofs.lemmas.Option.{slice_get-get_or}
use Rattle.frame_link.specs.Tested.{AreApart}

-- the first names of functions are none of objects
abbrev pub FirstApart : List (List ℕ) → List (List ℕ) → ℕ → Type 0
FirstApart objects functions n = (i : ℕ) (name : List ℕ) → i < n → slice_get functions i ≡ Some name → Contains objects name → ⊥

pub one_more : (os fs : List (List ℕ)) (n : ℕ) → FirstApart os fs n → ((name : List ℕ) → slice_get fs n ≡ Some name → Contains os name → ⊥) → FirstApart os fs (n + 1)
one_more os fs n h one i name l = cases (nat_lt i n) refl
  where
    below : nat_lt i n ≡ true → i < n
    below e = grind (arith, nat_tests, e)

    last : nat_lt i n ≡ false → i ≡ n
    last e = grind (arith, nat_tests, e, l)

    cases : (b : Bool) → nat_lt i n ≡ b → slice_get fs i ≡ Some name → Contains os name → ⊥
    cases true e has c = h i name (below e) has c
    cases false e has c = one name (subst (λ (j : ℕ). slice_get fs j ≡ Some name) (last e) has) c

pub all_apart : (os fs : List (List ℕ)) (n : ℕ) → length fs ≤ n → FirstApart os fs n → AreApart os fs
all_apart os fs n l h name o f =
    let w = f.1 in
    h f.0 name (omega (arith, l, w)) (slice_get-get_or fs f.0 name f.1 ∙ ap Some f.2) o
