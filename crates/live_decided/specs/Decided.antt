-- Every routine has an exact table of what is live.
use Rattle.temp_machine.specs.Routines.{Routine, Target}
use Rattle.color_table.specs.Tables.{Table, IsExact}

abbrev pub LivenessIsDecided : Type 0
LivenessIsDecided = (t : Target) (r : Routine) → (live : Table) × IsExact t r live
