-- The number of a name in a list of different names.
use Rattle.std.proofs.Common.{◌≡◌, ◌≢◌, ℕ, zero, suc, get_or, ◌<◌, Bool, true, false, if◌then◌else◌, List, [], ◌∷◌, length, slice_get, Some, refl, sym, ap, ◌∙◌, arith}
use Rattle.std.specs.Prelude.{AllPairs, Contains}
use Rattle.std.specs.Str.{bytes_eq}
use Rattle.std.proofs.lemmas.Slice.Eq.{bytes_eq-Decides}
use Rattle.std.proofs.lemmas.Option.{get_or_from_slice_get, slice_get_within}
use Rattle.temp_code.specs.Routines.{number_in}

pub number_there : (ns : List (List ℕ)) (name : List ℕ) → number_in ns name < length ns → Contains ns name
number_there [] name h = absurd (omega (arith, h))
number_there (n ∷ ns) name h = one (bytes_eq n name) refl (number_there ns name) h
  where
    further : Contains ns name → Contains (n ∷ ns) name
    further c = let w = c.1 in (suc c.0, omega (arith, w), c.2)

    one : (b : Bool) → bytes_eq n name ≡ b → (number_in ns name < length ns → Contains ns name) → (if b then zero else suc (number_in ns name)) < length (n ∷ ns)
        → Contains (n ∷ ns) name
    one true e more g = (0, omega arith, (bytes_eq-Decides n name).0 e)
    one false e more g = further (more (omega (arith, g)))

not_true : (b : Bool) → (b ≡ true → ⊥) → b ≡ false
not_true true h = absurd (h refl)
not_true false h = refl

number_at : (ns : List (List ℕ)) (i : ℕ) (name : List ℕ) → AllPairs (λ m n. m ≢ n) ns → i < length ns → get_or ns i name ≡ name → number_in ns name ≡ i
number_at [] i name h within e = absurd (omega (arith, within))
number_at (n ∷ ns) zero name h within e = ap (λ (b : Bool). if b then zero else suc (number_in ns name)) ((bytes_eq-Decides n name).1 e)
number_at (n ∷ ns) (suc i) name h within e =
    ap (λ (b : Bool). if b then zero else suc (number_in ns name))
    (not_true (bytes_eq n name) (λ t. h 0 (suc i) name (omega arith) within ((bytes_eq-Decides n name).0 t ∙ sym e)))
    ∙ ap suc (number_at ns i name (λ j k d l m. h (suc j) (suc k) d (omega (arith, l)) (omega (arith, m))) (omega (arith, within)) e)

pub number_is : (ns : List (List ℕ)) (i : ℕ) (name : List ℕ) → AllPairs (λ m n. m ≢ n) ns → slice_get ns i ≡ Some name → number_in ns name ≡ i
number_is ns i name h e = number_at ns i name h (slice_get_within ns i name e) (get_or_from_slice_get ns i name name e)
