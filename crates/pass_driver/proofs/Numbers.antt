-- The codes of a unit are of the functions 0, 1, 2 and so on.
use Rattle.std.proofs.Common.{◌≡◌, ℕ, zero, suc, ◌+◌, ◌<◌, ◌≤◌, ◌==◌, if◌then◌else◌, Bool, true, false, List, [], ◌∷◌, length, map, refl, ap, ◌∙◌, arith, inl, inr}
use Rattle.std.specs.Prelude.{◌≢◌, ◌⊎◌, slice_index_or, All, AllPairs, Contains}
use Rattle.std.specs.List.{AllZip}
use Rattle.std.proofs.lemmas.Bool.{eqb-true}
use Rattle.std.proofs.lemmas.Bool.Decides.{nat_tests}
use Rattle.std.proofs.lemmas.List.Elements.{All-nil, All-cons}
use Rattle.md_rows.specs.declared.description.RawDescription.{RawDescription}
use Rattle.temp_machine.specs.Routines.{Target}
use Rattle.temp_code.specs.declared.code.Code.{Code}
use Rattle.temp_code.specs.Routines.{routine_of, routine_in}
use Rattle.link_code.specs.Runs.{Stands}
use Rattle.color_units.specs.Units.{IsColoredBySome}
use Rattle.naive_code.specs.Functions.{numbers_from}

abbrev pub numbers_of : List Code → List ℕ
numbers_of cs = map (λ c. c.function) cs

-- coloured codes are of the same functions
pub same_numbers : (d : RawDescription) (t : Target) (old new : List Code) → AllZip (IsColoredBySome d t) old new → numbers_of new ≡ numbers_of old
same_numbers d t [] [] z = refl
same_numbers d t (b ∷ bs) (c ∷ cs) z = ap (λ n. n ∷ numbers_of cs) z.0.code.function ∙ ap (λ ns. b.function ∷ ns) (same_numbers d t bs cs z.1)
same_numbers d t [] (c ∷ cs) z = absurd z
same_numbers d t (b ∷ bs) [] z = absurd z

abbrev head_or : ℕ → List ℕ → ℕ
head_or n [] = n
head_or n (m ∷ ms) = m

abbrev tail_of : List ℕ → List ℕ
tail_of [] = []
tail_of (m ∷ ms) = ms

number_at : (cs : List Code) (n count : ℕ) → numbers_of cs ≡ numbers_from n count → (i : ℕ) (c : Code) → i < length cs → (slice_index_or cs i c).function ≡ n + i
number_at [] n count e i c l = absurd (omega (arith, l))
number_at (b ∷ bs) n zero e i c l = absurd (let k : b.function ∷ numbers_of bs ≡ [] = e in cc)
number_at (b ∷ bs) n (suc count) e zero c l = let k : b.function ≡ n = ap (head_or n) e in omega (arith, k)
number_at (b ∷ bs) n (suc count) e (suc i) c l =
    let k = number_at bs (suc n) count (ap tail_of e) i c (omega (arith, l)) in omega (arith, k)

pub differ : (cs : List Code) (count : ℕ) → numbers_of cs ≡ numbers_from 0 count → AllPairs (λ b c. b.function ≢ c.function) cs
differ cs count e i j c l m same =
    let a = number_at cs 0 count e i c (omega (arith, l, m)) in
    let b = number_at cs 0 count e j c m in
    absurd (omega (arith, l, a, b, same))

pub stands : (n count f : ℕ) → n ≤ f → f < n + count → Stands f (numbers_from n count)
stands n zero f l m = absurd (omega (arith, l, m))
stands n (suc count) f l m = by (n == f) refl (λ k. stands (suc n) count f k (omega (arith, m)))
  where
    by : (b : Bool) → (n == f) ≡ b → (suc n ≤ f → Stands f (numbers_from (suc n) count)) → (n ≡ f) ⊎ Stands f (numbers_from (suc n) count)
    by true e next = inl (eqb-true n f e)
    by false e next = inr (next (grind (arith, nat_tests, l, e)))

pub below : (n count most : ℕ) → n + count ≤ most → All (λ f. f < most) (numbers_from n count)
below n zero most l = All-nil (λ f. f < most)
below n (suc count) most l = All-cons (λ f. f < most) n (numbers_from (suc n) count) (omega (arith, l)) (below (suc n) count most (omega (arith, l)))

-- a routine that has a block is that of a code
pub stands_in : (cs : List Code) (f : ℕ) → 0 < length (routine_in cs f).blocks → Contains (numbers_of cs) f
stands_in [] f l = absurd (omega (arith, l))
stands_in (c ∷ cs) f l = by (c.function == f) refl l (stands_in cs f)
  where
    behind : Contains (numbers_of cs) f → Contains (c.function ∷ numbers_of cs) f
    behind h = (suc h.0, (let k = h.1 in omega (arith, k)), h.2)

    by : (b : Bool) → (c.function == f) ≡ b → 0 < length (if b then routine_of c else routine_in cs f).blocks → (0 < length (routine_in cs f).blocks → Contains (numbers_of cs) f)
        → Contains (c.function ∷ numbers_of cs) f
    by true e l next = (0, omega arith, eqb-true c.function f e)
    by false e l next = behind (next l)
