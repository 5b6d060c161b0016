-- What the passes hand on to each other.
use Rattle.std.specs.Prelude.{◌≡◌, List, [], Some}
use Rattle.std.specs.List.{AllZip}
use Rattle.md_rows.specs.declared.description.RawDescription.{RawDescription}
use Rattle.md_shapes.specs.Shapes.{Frame}
use Rattle.md_covers.specs.Covers.{frame_in}
use Rattle.temp_code.specs.declared.code.Code.{Code}
use Rattle.temp_code.specs.Routines.{routine_of}
use Rattle.temp_laws.specs.Targets.{target_of}
use Rattle.color_code.specs.Colors.{Seats, IsColoring}
use Rattle.color_registers.specs.Registers.{colors_of}
use Rattle.color_graph.specs.Meeting.{HaveHomes}
use Rattle.reg_color.specs.Codes.{MayBeColored}
use Rattle.color_units.specs.Units.{IsColoredBySome}

-- its temporaries have homes, and it may be coloured by each colouring that it has
pub record IsReady (d : RawDescription) (c : Code) : Type 0 where
  pub homes : HaveHomes (routine_of c)
  pub colors : (frame : Frame) → frame_in d ≡ Some frame → (seats : Seats) → IsColoring (target_of d frame []) (routine_of c) (colors_of d) seats
      → MayBeColored d (target_of d frame []) seats c

abbrev pub IsColored : RawDescription → Code → Code → Type 0
IsColored d old new = (frame : Frame) → frame_in d ≡ Some frame → IsColoredBySome d (target_of d frame []) old new

abbrev pub AreColored : RawDescription → List Code → List Code → Type 0
AreColored d old new = (frame : Frame) → frame_in d ≡ Some frame → AllZip (IsColoredBySome d (target_of d frame [])) old new
