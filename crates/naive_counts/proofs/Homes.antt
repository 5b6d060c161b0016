-- Each temporary has a home, among the slots of the function.
use Rattle.std.proofs.Common.{◌≡◌, ℕ, zero, suc, ◌+◌, ◌≤◌, ◌<◌, ◌⊎◌, inl, inr, true, List, [], ◌∷◌, ◌++◌, map, refl, ap, arith}
use Rattle.std.specs.Prelude.{length, All}
use Rattle.std.proofs.lemmas.List.{length-append, length-map}
use Rattle.std.proofs.lemmas.List.Elements.{All-cons, All-nil}
use Rattle.c_limits.specs.Depths.{greatest_in, depth_of}
use Rattle.naive_code.specs.Storage.{scalar_count}
use Rattle.naive_code.specs.Functions.{site_of, body_steps, numbers_from, function_homes, slots_of}
use Rattle.naive_counts.specs.Homes.{fills_lists, HomesAreSlots}
use Rattle.naive_counts.proofs.Depths.{Below, below_append}
use Rattle.naive_counts.proofs.Deepest.{statement_held}

all_below : (m : ℕ) (xs : List ℕ) → Below m xs → All (λ h. h < m) xs
all_below m [] h = All-nil (λ h. h < m)
all_below m (x ∷ xs) h = All-cons (λ h. h < m) x xs h.0 (all_below m xs h.1)

numbers_many : (k n : ℕ) → length (numbers_from k n) ≡ n
numbers_many k zero = refl
numbers_many k (suc n) = ap suc (numbers_many (suc k) n)

numbers_below : (k n m : ℕ) → k + n ≤ m → Below m (numbers_from k n)
numbers_below k zero m le = tt
numbers_below k (suc n) m le = (omega (arith, le), numbers_below (suc k) n m (omega (arith, le)))

moved_below : (k n : ℕ) (xs : List ℕ) → Below n xs → Below (k + n) (map (λ d. k + d) xs)
moved_below k n [] h = tt
moved_below k n (x ∷ xs) h = (let e = h.0 in omega (arith, e), moved_below k n xs h.1)

pub homes_are_slots : HomesAreSlots
homes_are_slots kept w t f = record { count = count; among = λ some. among (inr some); among_filled = λ filled. among (inl filled) }
  where
    count : length (function_homes kept w t f) ≡ scalar_count f + (body_steps kept w t f).temps + 1
    count =
        let body = body_steps kept w t f in
        let g = greatest_in depth_of f.body in
        let first = numbers_from 16 (scalar_count f) in let second = map (λ d. 16 + scalar_count f + d) (body.depths ++ 0 ∷ []) in
        let e = length-append first second in let e1 = numbers_many 16 (scalar_count f) in let e2 = length-map (body.depths ++ 0 ∷ []) (λ d. 16 + scalar_count f + d) in let e3 = length-append body.depths (0 ∷ []) in
        let e4 = ((statement_held (site_of kept w t f) f.locals f.body).each (g + 1) (inr (omega arith)) (omega arith)).many in
        omega (arith, e, e1, e2, e3, e4)

    among : (fills_lists f.body ≡ true) ⊎ (1 ≤ greatest_in depth_of f.body) → All (λ h. h < slots_of f) (function_homes kept w t f)
    among some =
        let body = body_steps kept w t f in
        let g = greatest_in depth_of f.body in
        let h = ((statement_held (site_of kept w t f) f.locals f.body).each g some (omega arith)).below in
        all_below (slots_of f) (function_homes kept w t f)
        (below_append (slots_of f) (numbers_from 16 (scalar_count f)) (map (λ d. 16 + scalar_count f + d) (body.depths ++ 0 ∷ [])) (numbers_below 16 (scalar_count f) (slots_of f) (omega arith))
        (moved_below (16 + scalar_count f) (g + 4) (body.depths ++ 0 ∷ []) (below_append (g + 4) body.depths (0 ∷ []) h (omega arith, tt))))
