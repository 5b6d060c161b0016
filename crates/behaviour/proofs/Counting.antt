-- The example of a target that rests.
use Rattle.std.proofs.Common.{◌≡◌, ℕ, zero, suc, [], refl, arith, inr}
use Rattle.behaviour.specs.Behaviour.{Ended, IsPrefix}
use Rattle.behaviour.specs.Steps.{OnlyPrints, printed_after, run, IsMatched, Stuttering}
use Rattle.behaviour.specs.Examples.{down, countdown, ending, CountdownStutters}
use Rattle.behaviour.proofs.Prefix.{prefix_refl}
use Rattle.behaviour.proofs.Growth.{ended_never_fails}
use Rattle.behaviour.proofs.Stepping.{run_is_run}
use Rattle.behaviour.proofs.Simulation.{simulation_same}
use Rattle.behaviour.proofs.Stuttering.{stuttering_simulates}

matched : (n : ℕ) → IsMatched countdown ending (λ n t. Unit {0}) (λ n. n) (down n) n tt
matched zero = (1, refl)
matched (suc n) = (tt, tt, inr (refl, omega arith))

stutters : Stuttering countdown ending (λ n t. Unit {0}) (λ n. n)
stutters = record { same_output = λ s t r. refl; matches = λ s t r. matched s }

counts_silently : OnlyPrints down (λ n. [])
counts_silently = record { at = silent }
  where
    silent : (n : ℕ) → IsPrefix [] (printed_after (λ n. []) (down n))
    silent zero = prefix_refl []
    silent (suc n) = prefix_refl []

ends : (n : ℕ) → run countdown n (suc n) ≡ Ended [] 0
ends zero = refl
ends (suc n) = ends n

pub countdown_stutters : CountdownStutters
countdown_stutters = (
  stutters,
  λ n.
      simulation_same countdown ending _ (stuttering_simulates countdown ending _ _ stutters) counts_silently (record { at = λ s. prefix_refl [] }) n tt tt
      (ended_never_fails (run countdown n) (run_is_run countdown counts_silently n) (suc n) [] 0 (ends n)),
)
