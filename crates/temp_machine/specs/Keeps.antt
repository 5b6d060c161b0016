-- When new code keeps what old code does.
use Rattle.behaviour.specs.Run.{Keep}
use Rattle.temp_machine.specs.Routines.{Image, Target}
use Rattle.temp_machine.specs.Machine.{temporary_run}

-- on each input of bytes on which the old code never fails, the new code never fails either and does the same
abbrev pub Keeps : Target → Image → Image → Type 0
Keeps t new old = Keep (temporary_run t new) (temporary_run t old)
