-- A unit whose temporaries are put into registers and homes.
use Rattle.std.specs.Prelude.{◌≡◌, ℕ, List, []}
use Rattle.std.specs.List.{AllZip}
use Rattle.md_rows.specs.declared.description.RawDescription.{RawDescription}
use Rattle.md_shapes.specs.Shapes.{Frame}
use Rattle.md_check.specs.Checking.{IsChecked}
use Rattle.temp_machine.specs.Routines.{Routine, Target}
use Rattle.temp_code.specs.declared.code.Code.{Code}
use Rattle.temp_code.specs.declared.code.Unit.{Unit as Program}
use Rattle.temp_code.specs.Routines.{routine_of}
use Rattle.temp_laws.specs.Targets.{target_of}
use Rattle.color_code.specs.Colors.{Seats, IsColoring}
use Rattle.color_holding.specs.Places.{AreGeneral}
use Rattle.color_registers.specs.Registers.{colors_of}
use Rattle.reg_color.specs.Codes.{IsColoredCode}

-- a code coloured by some colouring
pub record IsColoredBySome (d : RawDescription) (t : Target) (old new : Code) : Type 0 where
  pub seats : Seats
  pub coloring : IsColoring t (routine_of old) (colors_of d) seats
  pub code : IsColoredCode d t seats old new

-- code by code; the rest stays
pub record IsColoredUnit (d : RawDescription) (frame : Frame) (old new : Program) : Type 0 where
  pub codes : AllZip (IsColoredBySome d (target_of d frame [])) old.codes new.codes
  pub symbols : new.symbols ≡ old.symbols
  pub bytes : new.bytes ≡ old.bytes
  pub names : new.names ≡ old.names

-- the registers of a colouring are general ones of the machine
abbrev pub ColorsAreGeneral : Type 0
ColorsAreGeneral =
    (w : ℕ) (d : RawDescription) (frame : Frame) (kept : List ℕ) (r : Routine) (seats : Seats) → IsChecked w d
    → IsColoring (target_of d frame kept) r (colors_of d) seats → AreGeneral (target_of d frame kept) seats
