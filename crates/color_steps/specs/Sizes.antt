-- How large a coloured routine is.
use Rattle.std.specs.Prelude.{◌≡◌, ◌≤◌}
use Rattle.temp_machine.specs.Routines.{Routine, Target}
use Rattle.temp_machine.specs.Tidy.{transfer_count, room, return_count}
use Rattle.color_code.specs.Colors.{Seats}
use Rattle.color_transfer.specs.Code.{IsColoredRoutine}

-- it has at most the room of the old one, and as many returns
pub record IsSmall (old new : Routine) : Type 0 where
  pub transfers : transfer_count new ≤ room old
  pub returns : return_count new ≡ return_count old

abbrev pub ColoredIsSmall : Type 0
ColoredIsSmall = (t : Target) (seats : Seats) (old new : Routine) → IsColoredRoutine t seats old new → IsSmall old new
