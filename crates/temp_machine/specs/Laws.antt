-- Laws of the temporary machine.
use Rattle.std.specs.Prelude.{ℕ, List}
use Rattle.behaviour.specs.Run.{IsRun, NeverFails, Same}
use Rattle.temp_machine.specs.Routines.{Image, Target}
use Rattle.temp_machine.specs.Machine.{temporary_run}
use Rattle.temp_machine.specs.Small.{small_run}

-- what is seen within a bound is seen within each greater one
abbrev pub TemporaryRunIsRun : Type 0
TemporaryRunIsRun = (t : Target) (p : Image) (input : List ℕ) → IsRun (temporary_run t p input)

-- a run by blocks does what the run by transfers does
abbrev pub BlocksAreSmall : Type 0
BlocksAreSmall = (t : Target) (p : Image) (input : List ℕ) → NeverFails (small_run t p input) → Same (small_run t p input) (temporary_run t p input)
