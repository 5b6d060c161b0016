-- The transfer between loads and stores.
use Rattle.std.specs.Prelude.{List}
use Rattle.rtl_tree.specs.Moves.{Move}
use Rattle.temp_machine.specs.Routines.{Routine, Target}
use Rattle.temp_machine.specs.Units.{IsTarget}
use Rattle.color_code.specs.Colors.{Seats}
use Rattle.color_transfer.specs.Colored.{AreColoredParts}
use Rattle.color_holding.specs.Places.{AreGeneral}
use Rattle.color_image.specs.Laws.{IsStraightTransfer}

-- with general registers in place of its temporaries a transfer neither jumps nor moves the stack, where it did neither before
abbrev pub MiddlesAreStraight : Type 0
MiddlesAreStraight =
    (t : Target) (r : Routine) (seats : Seats) (ms : List Move) (loads : List (List Move)) (middle : List Move) (stores : List (List Move)) → AreColoredParts t r seats ms loads middle stores
    → IsTarget t → AreGeneral t seats → IsStraightTransfer t ms → IsStraightTransfer t middle
