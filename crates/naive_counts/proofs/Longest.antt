-- No way to do an operation is longer than it counts, and what lists count adds up.
use Rattle.std.proofs.Common.{◌≡◌, ℕ, zero, suc, ◌+◌, ◌≤◌, List, [], ◌∷◌, ◌++◌, subst, arith}
use Rattle.std.specs.Prelude.{Bool, true, false, ◌==◌, if◌then◌else◌, length, Contains}
use Rattle.naive_code.specs.Operations.{Op, Make, Meet, Scale, Extend, Close}
use Rattle.naive_run.specs.Standing.{Shaped}
use Rattle.naive_counts.specs.Counts.{most_with, WaysAreCounted}

pub most_append : (per : ℕ) (xs ys : List Op) → most_with per (xs ++ ys) ≡ most_with per xs + most_with per ys
most_append per [] ys = omega arith
most_append per (x ∷ xs) ys = let e = most_append per xs ys in omega (arith, e)

-- a way of a list of three
of_three : (a b c way : List Shaped) (n : ℕ) → length a ≤ n → length b ≤ n → length c ≤ n → Contains (a ∷ b ∷ c ∷ []) way → length way ≤ n
of_three a b c way n p q r (zero, lt, e) = subst (λ x. length x ≤ n) e p
of_three a b c way n p q r (suc zero, lt, e) = subst (λ x. length x ≤ n) e q
of_three a b c way n p q r (suc (suc zero), lt, e) = subst (λ x. length x ≤ n) e r
of_three a b c way n p q r (suc (suc (suc k)), lt, e) = absurd (omega (arith, lt))

of_two : (a b way : List Shaped) (n : ℕ) → length a ≤ n → length b ≤ n → Contains (a ∷ b ∷ []) way → length way ≤ n
of_two a b way n p q (zero, lt, e) = subst (λ x. length x ≤ n) e p
of_two a b way n p q (suc zero, lt, e) = subst (λ x. length x ≤ n) e q
of_two a b way n p q (suc (suc k), lt, e) = absurd (omega (arith, lt))

one_or_two : (b : Bool) (s : Shaped) → length (s ∷ (if b then [] else s ∷ [])) ≤ 2
one_or_two true s = omega arith
one_or_two false s = omega arith

pub ways_are_counted : WaysAreCounted
ways_are_counted w per (Make p o) way (zero, lt, e) = subst (λ x. length x ≤ 1) e (omega arith)
ways_are_counted w per (Make p o) way (suc k, lt, e) = absurd (omega (arith, lt))
ways_are_counted w per (Meet a b) way has = of_two _ _ way 2 (omega arith) (omega arith) has
ways_are_counted w per (Scale a spare) way has = of_two _ _ way 2 (omega arith) (one_or_two (w == 16) _) has
ways_are_counted w per (Extend a spare) way has = of_three _ _ _ way 3 (omega arith) (omega arith) (omega arith) has
ways_are_counted w per (Close stop l) way (k, lt, e) = absurd (omega (arith, lt))
