-- Laws of runs of a machine.
use Rattle.std.specs.Prelude.{ℕ, ◌≢◌, List, All}
use Rattle.behaviour.specs.Behaviour.{Failed, Wild}
use Rattle.behaviour.specs.Run.{IsRun}
use Rattle.rtl_tree.specs.Moves.{Move}
use Rattle.rtl_tree.specs.WellFormed.{IsWellFormed}
use Rattle.rtl_effect.specs.Calm.{AssignsNoHole}
use Rattle.machine_run.specs.Machine.{Code, machine_run}

-- the transfer of an instruction: well formed, and its holes are filled
pub record IsRunnable (ms : List Move) : Type 0 where
  pub formed : IsWellFormed ms
  pub filled : AssignsNoHole ms

-- what is seen within a bound is seen within each greater one
abbrev pub MachineRunIsRun : Type 0
MachineRunIsRun = (p : Code) (input : List ℕ) → IsRun (machine_run p input)

-- a machine goes on, ends or traps: it is never wild
abbrev pub NeverWild : Type 0
NeverWild = (p : Code) → All IsRunnable p.transfers → (input : List ℕ) (n : ℕ) (out : List ℕ) → machine_run p input n ≢ Failed out Wild
