-- What a call of `run` on a machine that was just loaded comes to: the definition's run on all the input that the source had left.
use Rattle.std.specs.Prelude.{ℕ, ◌≡◌, ◌≤◌, List, Option, Some, None}
use Rattle.std.specs.Io.KnownBytes.{Appends}
use Rattle.vp_io.specs.Contents.{AppendsPart}
use Rattle.behaviour.specs.Behaviour.{Running, Ended as EndedBy, Failed, Trapped as TrappedBy, output}
use Rattle.machine_run.specs.Machine.{Code, machine_run}
use Rattle.machine_step.specs.declared.running.Stop.{Stop}
use Rattle.machine_step.specs.declared.running.Stop.TheVariants.{Ended, Trapped, Spent, ReadFault, WriteFault}
use Rattle.machine_step.specs.Steps.{HasCauses}
use Rattle.machine_step.specs.Runs.{ReachesInput}

-- what so many turns on this input come to: the run ended, trapped or goes on, and all was written that it printed; or a read failed, at an
-- instruction of the run that takes a byte, and all was written that the run had printed by then; or a write failed, and some first bytes
-- were written of what the run printed
abbrev pub RunsTo : Code → List ℕ → ℕ → Option (List ℕ) → Option (List ℕ) → Stop → Type 0
RunsTo p input steps written written' (Ended status) = (out : List ℕ) × (machine_run p input steps ≡ EndedBy out status) × Appends written written' out
RunsTo p input steps written written' (Trapped kind place) =
    (out : List ℕ) × (machine_run p input steps ≡ Failed out (TrappedBy kind place)) × Appends written written' out
RunsTo p input steps written written' Spent = (out : List ℕ) × (machine_run p input steps ≡ Running out) × Appends written written' out
RunsTo p input steps written written' ReadFault =
    (turns : ℕ) × (out : List ℕ) × (turns ≤ steps) × ReachesInput p input turns out × Appends written written' out
RunsTo p input steps written written' WriteFault = AppendsPart written written' (output (machine_run p input steps))

-- this is all that the source had left, where it tells that
abbrev pub IsAllLeft : Option (List ℕ) → List ℕ → Type 0
IsAllLeft (Some left) input = input ≡ left
IsAllLeft None input = Unit {0}

-- a call that makes up to so many turns, from the program's start: some input is all that the source had left, and on it the machine
-- came to what the run comes to; a fault comes only where the count of its object rose in this call
pub record RunsFrom (p : Code) (steps : ℕ) (left written written' : Option (List ℕ)) (reads reads' writes writes' : ℕ) (stop : Stop) : Type 0 where
  pub input : List ℕ
  pub all : IsAllLeft left input
  pub runs : RunsTo p input steps written written' stop
  pub causes : HasCauses reads reads' writes writes' (Some stop)
