-- A relation between each two elements, taken apart at the first one.
use Rattle.std.proofs.Common.{◌≡◌, ◌≤◌, ◌-◌, List, [], ◌∷◌, zero, suc, arith, length, take, drop, get_or, sym, subst, Bool, true, false, IsTrue, ◌↔◌}
use Rattle.std.specs.Prelude.{All, AllPairs}
use Rattle.std.proofs.lemmas.Grind.{common_steps}
use Rattle.std.proofs.lemmas.List.Kept.{AllPairs-cons}

pub AllPairs-first : {X : Type 0} (R : X → X → Type 0) (x : X) (xs : List X) → AllPairs R (x ∷ xs) → All (R x) xs
AllPairs-first R x xs h k d within = h zero (suc k) d (omega arith) (omega arith)

pub AllPairs-rest : {X : Type 0} (R : X → X → Type 0) (x : X) (xs : List X) → AllPairs R (x ∷ xs) → AllPairs R xs
AllPairs-rest R x xs h i j d lt within = h (suc i) (suc j) d (omega arith) (omega arith)

-- what the pattern [first, rest @ ..] takes from a slice
pub is_cons : {X : Type 0} (x : X) (xs : List X) → 1 ≤ length xs → x ≡ get_or xs 0 x → xs ≡ x ∷ take (length xs - 1) (drop 1 xs)
is_cons x [] h e = absurd (omega arith)
is_cons x (z ∷ zs) h e =
    let g : take (length (z ∷ zs) - 1) zs ≡ zs = grind (arith, common_steps) in
    let k : x ≡ z = e in
    grind (arith, g, k)

pub AllPairs-from_rest : {X : Type 0} (R : X → X → Type 0) (x : X) (ys xs : List X) (b : Bool) → xs ≡ x ∷ ys → All (R x) ys → IsTrue b ↔ AllPairs R ys → IsTrue b ↔ AllPairs R xs
AllPairs-from_rest R x ys xs b e h k =
    subst (λ zs. IsTrue b ↔ AllPairs R zs) (sym e) ((λ t. AllPairs-cons R x ys h (k.0 t)), (λ p. k.1 (AllPairs-rest R x ys p)))

pub AllPairs-from_first : {X : Type 0} (R : X → X → Type 0) (x : X) (ys xs : List X) (b : Bool) → xs ≡ x ∷ ys → b ≡ false → IsTrue b ↔ All (R x) ys → IsTrue b ↔ AllPairs R xs
AllPairs-from_first R x ys xs true e f k = absurd (let n : true ≡ false = f in cc)
AllPairs-from_first R x ys xs false e f k =
    subst (λ zs. IsTrue false ↔ AllPairs R zs) (sym e) ((λ t. absurd (let n : false ≡ true = t in cc)), (λ p. k.1 (AllPairs-first R x ys p)))
