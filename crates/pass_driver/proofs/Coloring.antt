-- Codes that are coloured one by one, and lists of parts.
use Rattle.std.proofs.Common.{◌≡◌, ◌∙◌, ℕ, zero, suc, ◌+◌, ◌<◌, ◌≤◌, List, [], ◌∷◌, ◌++◌, map, drop, length, get_or, Some, refl, sym, ap, subst, arith, append_assoc}
use mathlib.Core.List.{map-append}
use Rattle.std.specs.Prelude.{All}
use Rattle.std.specs.List.{AllZip}
use Rattle.std.proofs.lemmas.List.Elements.{All-head, All-tail}
use Rattle.md_rows.specs.declared.description.RawDescription.{RawDescription}
use Rattle.md_shapes.specs.Shapes.{Frame}
use Rattle.md_covers.specs.Covers.{frame_in}
use Rattle.temp_code.specs.declared.code.Code.{Code}
use Rattle.temp_laws.specs.Targets.{target_of}
use Rattle.color_units.specs.Units.{IsColoredBySome}
use Rattle.pass_driver.specs.Passes.{IsColored, AreColored}

pub drop_at : {A : Type 0} (xs : List A) (i : ℕ) (x : A) → i < length xs → drop i xs ≡ get_or xs i x ∷ drop (i + 1) xs
drop_at [] i x h = absurd (omega (arith, h))
drop_at (y ∷ xs) zero x h = refl
drop_at (y ∷ xs) (suc i) x h =
    drop_at xs i x (let q : suc i < suc (length xs) = h in omega arith)
    ∙ ap (λ (n : ℕ). get_or xs i x ∷ drop n (y ∷ xs)) (let q : suc (i + 1) ≡ suc i + 1 = omega arith in q)

pub dropped : {A : Type 0} (xs : List A) (i : ℕ) → length xs ≤ i → drop i xs ≡ []
dropped [] zero h = refl
dropped [] (suc i) h = refl
dropped (x ∷ xs) zero h = absurd (omega (arith, h))
dropped (x ∷ xs) (suc i) h = dropped xs i (let q : suc (length xs) ≤ suc i = h in omega arith)

-- what is left to be coloured behind what is made
abbrev pub IsLeft : RawDescription → List Code → ℕ → List Code → Type 0
IsLeft d codes i made =
    (frame : Frame) → frame_in d ≡ Some frame → (rest : List Code) → AllZip (IsColoredBySome d (target_of d frame [])) (drop i codes) rest
    → AllZip (IsColoredBySome d (target_of d frame [])) codes (made ++ rest)

pub first_left : (d : RawDescription) (codes : List Code) → IsLeft d codes 0 []
first_left d codes frame e rest h = h

pub next_left : (d : RawDescription) (codes : List Code) (i : ℕ) (x new : Code) (made more : List Code) → i < length codes → more ≡ made ++ new ∷ []
    → IsColored d (get_or codes i x) new → IsLeft d codes i made → IsLeft d codes (i + 1) more
next_left d codes i x new made more within pushed one left frame e rest h =
    let R = IsColoredBySome d (target_of d frame []) in
    subst (λ (xs : List Code). AllZip R codes (xs ++ rest)) (sym pushed)
    (subst (λ (xs : List Code). AllZip R codes xs) (sym (append_assoc made (new ∷ []) rest))
    (left frame e (new ∷ rest) (subst (λ (xs : List Code). AllZip R xs (new ∷ rest)) (sym (drop_at codes i x within)) (one frame e, h))))

append_none : {A : Type 0} (xs : List A) → xs ++ [] ≡ xs
append_none [] = refl
append_none (x ∷ xs) = ap (λ ys. x ∷ ys) (append_none xs)

pub none_left : (d : RawDescription) (codes : List Code) (i : ℕ) (made : List Code) → length codes ≤ i → IsLeft d codes i made → AreColored d codes made
none_left d codes i made all left frame e =
    let R = IsColoredBySome d (target_of d frame []) in
    subst (λ (xs : List Code). AllZip R codes xs) (append_none made)
    (left frame e [] (subst (λ (xs : List Code). AllZip R xs []) (sym (dropped codes i all)) tt))

-- a list of which each item is mapped to the next of another list
pub next_part : {A B : Type 0} (f : A → B) (xs : List B) (i : ℕ) (x : B) (done more : List A) (y : A) → i < length xs → more ≡ done ++ y ∷ [] → f y ≡ get_or xs i x
    → map f done ++ drop i xs ≡ xs → map f more ++ drop (i + 1) xs ≡ xs
next_part f xs i x done more y within pushed is e =
    ap (λ ys. map f ys ++ drop (i + 1) xs) pushed
    ∙ (ap (λ ys. ys ++ drop (i + 1) xs) (map-append f done (y ∷ []))
    ∙ (append_assoc (map f done) (f y ∷ []) (drop (i + 1) xs)
    ∙ (ap (λ z. map f done ++ (z ∷ drop (i + 1) xs)) is
    ∙ (ap (λ ys. map f done ++ ys) (sym (drop_at xs i x within)) ∙ e))))

pub all_parts : {A B : Type 0} (f : A → B) (xs : List B) (i : ℕ) (done : List A) → length xs ≤ i → map f done ++ drop i xs ≡ xs → map f done ≡ xs
all_parts f xs i done all e = sym (append_none (map f done)) ∙ (ap (λ ys. map f done ++ ys) (sym (dropped xs i all)) ∙ e)

pub all_got : {A : Type 0} (P : A → Type 0) (xs : List A) (i : ℕ) (x : A) → i < length xs → All P xs → P (get_or xs i x)
all_got P [] i x h all = absurd (omega (arith, h))
all_got P (y ∷ xs) zero x h all = All-head P y xs all
all_got P (y ∷ xs) (suc i) x h all = all_got P xs i x (let q : suc i < suc (length xs) = h in omega arith) (All-tail P y xs all)
