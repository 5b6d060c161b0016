-- The worked operations.
use Rattle.std.proofs.Common.{◌≡◌, inl, inr, ℕ, List, [], ◌∷◌, Option, refl, arith}
use Rattle.rtl_word.specs.declared.Rel.TheVariants.{Ne}
use Rattle.rtl_tree.specs.declared.cells.Cell.TheVariants.{Temp}
use Rattle.naive_code.specs.Operations.{Falls, Jumps, Branches, Close, constant, add}
use Rattle.naive_live.specs.Live.{Has, Holds, Comes, Lives}
use Rattle.naive_live.specs.Function.{numbered}
use Rattle.naive_live.specs.Worked.{sum, choice, behind, Worked}
use Rattle.naive_live.proofs.Lists.{within_same, within_rest, stacked, fresh}
use Rattle.naive_live.proofs.Passing.{first, only, comes_new, falls}
use Rattle.naive_live.proofs.Steps.{nothing_apart}

sum_lives : Lives (numbered 0 (0 ∷ 1 ∷ [])) 0 (λ l. []) [] sum (0 ∷ [])
sum_lives =
    let d = numbered 0 (0 ∷ 1 ∷ []) in let env : ℕ → List ℕ = λ l. [] in let xs = 0 ∷ [] in
    first d 0 env (constant 0 7) (constant 1 8 ∷ add 0 1 ∷ []) [] xs xs (refl, comes_new d 0 env 0 [] (fresh d 0 0 [] refl tt))
    (first d 0 env (constant 1 8) (add 0 1 ∷ []) xs (1 ∷ xs) xs (refl, comes_new d 0 env 1 xs (fresh d 1 1 xs refl (stacked d 0 0 [] refl tt)))
    (only d 0 env (add 0 1) (1 ∷ xs) xs (inr (inr (inl refl)), inr (inl refl), within_rest 1 xs)))

choice_lives : Lives (numbered 0 (1 ∷ 2 ∷ 0 ∷ [])) 0 behind [] choice (2 ∷ [])
choice_lives =
    let d = numbered 0 (1 ∷ 2 ∷ 0 ∷ []) in let xs = 0 ∷ [] in let us = 2 ∷ [] in
    let lone = fresh d 0 2 [] refl tt in
    let third = constant 2 8 ∷ Close Falls 2 ∷ [] in
    let second = constant 2 7 ∷ Close (Jumps 2) 0 ∷ third in
    first d 0 behind (constant 0 1) (constant 1 0 ∷ Close (Branches Ne 0 1 0) 1 ∷ second) [] xs us (refl, comes_new d 0 behind 0 [] (fresh d 1 0 [] refl tt))
    (first d 0 behind (constant 1 0) (Close (Branches Ne 0 1 0) 1 ∷ second) xs (1 ∷ xs) us (refl, comes_new d 0 behind 1 xs (fresh d 2 1 xs refl (stacked d 1 0 [] refl tt)))
    (first d 0 behind (Close (Branches Ne 0 1 0) 1) second (1 ∷ xs) [] us (refl, nothing_apart d 0, (inr (inr (inl refl)), inr (inl refl), (λ i k. absurd k), λ i k. absurd k))
    (first d 0 behind (constant 2 7) (Close (Jumps 2) 0 ∷ third) [] us us (refl, comes_new d 0 behind 2 [] lone)
    (first d 0 behind (Close (Jumps 2) 0) third us [] us (refl, nothing_apart d 0, within_same us)
    (first d 0 behind (constant 2 8) (Close Falls 2 ∷ []) [] us us (refl, comes_new d 0 behind 2 [] lone) (falls d 0 behind 2 us us refl lone (within_same us)))))))

module _ (env : ℕ → List ℕ) where
  abbrev same : ℕ → Option ℕ
  same = numbered 0 (0 ∷ 0 ∷ [])

  held : (live : List ℕ) (i : ℕ) → Holds same 0 env live (Temp i) → Has live i
  held live i (inl lt) = absurd (omega (arith, lt))
  held live i (inr k) = k

  refused : (live next kept : List ℕ) → Comes same 0 env live (Temp 1) next → ((i : ℕ) → Has kept i → Has next i) → Has kept 0 → Has kept 1 → ⊥
  refused live next kept (inl k) w h g = let lt = k.0 in omega (arith, lt)
  refused live next kept (inr s) w h g = let e : 0 ≡ 1 = s.apart.apart 0 1 (w 0 h) (w 1 g) refl in omega (arith, e)

  sum_refused : (live : List ℕ) → Lives same 0 env [] sum live → ⊥
  sum_refused live h =
      let second = h.4 in let third = second.4 in
      refused second.0 second.2 third.0 second.3.1 third.1 (held third.0 0 third.3.0) (held third.0 1 third.3.1)

pub worked : Worked
worked = record { sum_lives = sum_lives; sum_refused = λ live h. sum_refused (λ l. []) live h; choice_lives = choice_lives }
