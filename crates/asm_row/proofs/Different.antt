-- No two registers of a list are one.
use Rattle.std.proofs.Common.{◌≡◌, ◌≢◌, inl, inr, ℕ, suc, ◌<◌, List, [], ◌∷◌, length, get_or, All, AllPairs, sym, arith}
use Rattle.std.proofs.lemmas.List.Kept.{AllPairs-cons}
use Rattle.std.proofs.lemmas.List.Elements.{All-cons, All-nil}
use Rattle.rtl_tree.specs.declared.cells.Cell.{Cell}
use Rattle.asm_row.specs.Found.{IsAmong, AllDiffer}

all_other : (c : Cell) (xs : List Cell) → (IsAmong c xs → ⊥) → All (λ x. c ≢ x) xs
all_other c [] never = All-nil (λ x. c ≢ x)
all_other c (x ∷ xs) never = All-cons (λ y. c ≢ y) x xs (λ e. never (inl (sym e))) (all_other c xs (λ h. never (inr h)))

pub pairs_from : (xs : List Cell) → AllDiffer xs → AllPairs (λ a b. a ≢ b) xs
pairs_from [] h = λ i j d less within. absurd (omega (arith, within))
pairs_from (x ∷ xs) h = AllPairs-cons (λ a b. a ≢ b) x xs (all_other x xs h.0) (pairs_from xs h.1)

among_at : (c : Cell) (xs : List Cell) → IsAmong c xs → (j : ℕ) × (j < length xs) × (get_or xs j c ≡ c)
among_at c [] h = absurd h
among_at c (x ∷ xs) (inl e) = (0, omega arith, e)
among_at c (x ∷ xs) (inr h) = let k = among_at c xs h in (suc k.0, (let l = k.1 in omega (arith, l)), k.2)

pub pairs_to : (xs : List Cell) → AllPairs (λ a b. a ≢ b) xs → AllDiffer xs
pairs_to [] h = tt
pairs_to (x ∷ xs) h = (
  λ a. let k = among_at x xs a in h 0 (suc k.0) x (omega arith) (let l = k.1 in omega (arith, l)) (sym k.2),
  pairs_to xs (λ i j d less within. h (suc i) (suc j) d (omega (arith, less)) (omega (arith, within))),
)
