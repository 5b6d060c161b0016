-- The labels of a switch: which one is the first of a list's (C11 6.8.4.2).
use Rattle.std.proofs.Common.{◌≡◌, ℕ, ◌+◌, List, [], ◌∷◌, ◌++◌, map, Option, Some, None, Bool, true, false, if◌then◌else◌, refl, ap}
use Rattle.std.specs.Prelude.{◌||◌, ◌==◌}
use Rattle.c_tree.specs.declared.typed.Object.{Object as Thing}
use Rattle.c_meaning.specs.Statements.{is_label, among}
use Rattle.naive_code.specs.Expressions.{Site}
use Rattle.naive_code.specs.Statements.{shifted, otherwise}
use Rattle.naive_statements.proofs.Dispatching.{chosen_case}

-- the first case with a label
abbrev pub found_case : Option ℕ → List (Option ℕ × ℕ) → Option ℕ
found_case l [] = None
found_case l ((x, k) ∷ rest) = if is_label l x then Some k else found_case l rest

abbrev pub is_found : Option ℕ → Bool
is_found None = false
is_found (Some k) = true

-- where the first has none, that of others
abbrev pub first_of : Option ℕ → Option ℕ → Option ℕ
first_of None o = o
first_of (Some k) o = Some k

abbrev pub further : ℕ → Option ℕ → Option ℕ
further n None = None
further n (Some k) = Some (k + n)

pub found_append : (l : Option ℕ) (xs ys : List (Option ℕ × ℕ)) → found_case l (xs ++ ys) ≡ first_of (found_case l xs) (found_case l ys)
found_append l [] ys = refl
found_append l ((x, k) ∷ rest) ys = by_label (is_label l x) (found_append l rest ys)
  where
    by_label : (b : Bool) → found_case l (rest ++ ys) ≡ first_of (found_case l rest) (found_case l ys)
        → (if b then Some k else found_case l (rest ++ ys)) ≡ first_of (if b then Some k else found_case l rest) (found_case l ys)
    by_label true ih = refl
    by_label false ih = ih

pub found_shifted : (l : Option ℕ) (n : ℕ) (cs : List (Option ℕ × ℕ)) → found_case l (map (shifted n) cs) ≡ further n (found_case l cs)
found_shifted l n [] = refl
found_shifted l n ((x, k) ∷ rest) = by_label (is_label l x) (found_shifted l n rest)
  where
    by_label : (b : Bool) → found_case l (map (shifted n) rest) ≡ further n (found_case l rest)
        → (if b then Some (k + n) else found_case l (map (shifted n) rest)) ≡ further n (if b then Some k else found_case l rest)
    by_label true ih = refl
    by_label false ih = ih

-- a label is among those of the cases where a case has it
pub among_found : (l : Option ℕ) (cs : List (Option ℕ × ℕ)) → among l (map (λ c. c.0) cs) ≡ is_found (found_case l cs)
among_found l [] = refl
among_found l ((x, k) ∷ rest) = by_label (is_label l x) (among_found l rest)
  where
    by_label : (b : Bool) → among l (map (λ c. c.0) rest) ≡ is_found (found_case l rest)
        → (b || among l (map (λ c. c.0) rest)) ≡ is_found (if b then Some k else found_case l rest)
    by_label true ih = refl
    by_label false ih = ih

pub labels_shifted : (n : ℕ) (cs : List (Option ℕ × ℕ)) → map (λ c. c.0) (map (shifted n) cs) ≡ map (λ c. c.0) cs
labels_shifted n [] = refl
labels_shifted n ((x, k) ∷ rest) = ap (λ xs. x ∷ xs) (labels_shifted n rest)

-- the comparisons lead to the first case with the value
pub chosen_found : (v : ℕ) (cs : List (Option ℕ × ℕ)) → chosen_case v cs ≡ found_case (Some v) cs
chosen_found v [] = refl
chosen_found v ((Some x, k) ∷ rest) = ap (λ o. if v == x then Some k else o) (chosen_found v rest)
chosen_found v ((None, k) ∷ rest) = chosen_found v rest

-- and the jump behind them to the default, or behind the switch
abbrev pub or_behind : (base behind : ℕ) → Option ℕ → ℕ
or_behind base behind None = behind
or_behind base behind (Some k) = base + k

pub otherwise_found : (site : Site) (locals : List Thing) (base behind : ℕ) (cs : List (Option ℕ × ℕ)) → otherwise site locals base behind cs ≡ or_behind base behind (found_case None cs)
otherwise_found site locals base behind [] = refl
otherwise_found site locals base behind ((Some v, k) ∷ rest) = otherwise_found site locals base behind rest
otherwise_found site locals base behind ((None, k) ∷ rest) = refl
