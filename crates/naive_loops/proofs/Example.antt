-- The loop of the example.
use Rattle.std.proofs.Common.{ℕ, ◌≤◌, [], ◌∷◌, refl, arith}
use Rattle.std.proofs.lemmas.Bool.Decides.{nat_tests}
use Rattle.naive_builder.specs.Finished.{times}
use Rattle.naive_loops.specs.Loops.{Spares}
use Rattle.naive_loops.specs.Example.{PremisesAreMet}

none_spared : (m : ℕ) → Spares m []
none_spared m stop l has to = let lt = has.1 in omega (arith, lt)

once : (x : ℕ) → times x (9 ∷ 11 ∷ 12 ∷ 10 ∷ []) ≤ 1
once x = grind (arith, nat_tests)

pub premises_are_met : PremisesAreMet
premises_are_met = record {
  once = once;
  loop = record { stands = refl; leads_back = refl; before_spares = λ m has. none_spared m; behind_spares = λ m has. none_spared m };
}
