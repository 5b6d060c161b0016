-- A simulation in which the target takes no step for most steps of the source.
use Rattle.std.specs.Prelude.{ℕ, zero, suc, []}
use Rattle.behaviour.specs.Run.{Same}
use Rattle.behaviour.specs.Steps.{Move, Goes, Stops, Machine, run, Stuttering}

abbrev pub down : ℕ → Move ℕ
down zero = Stops [] 0
down (suc n) = Goes n

-- counts down and ends
abbrev pub countdown : Machine
countdown = record { State = ℕ; step = down; printed = λ n. [] }

-- ends at once
abbrev pub ending : Machine
ending = record { State = Unit {0}; step = λ t. Stops [] 0; printed = λ t. [] }

abbrev pub CountdownStutters : Type 0
CountdownStutters = Stuttering countdown ending (λ n t. Unit {0}) (λ n. n) × ((n : ℕ) → Same (run countdown n) (run ending tt))
