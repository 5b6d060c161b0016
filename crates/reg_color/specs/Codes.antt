-- Codes whose temporaries are put into registers and homes.
use Rattle.std.specs.Prelude.{◌≡◌, ◌↔◌, ℕ, false, slice_get, Some}
use Rattle.std.specs.List.{AllZip}
use Rattle.md_rows.specs.declared.description.RawDescription.{RawDescription}
use Rattle.temp_machine.specs.Routines.{Target}
use Rattle.temp_machine.specs.Cells.{is_temporary, mentions}
use Rattle.temp_machine.specs.Tidy.{IsTidy}
use Rattle.temp_machine.specs.Units.{IsSound}
use Rattle.temp_code.specs.declared.code.Transfer.{Transfer}
use Rattle.temp_code.specs.declared.code.End.TheVariants.{Call}
use Rattle.temp_code.specs.declared.code.Block.{Block}
use Rattle.temp_code.specs.declared.code.Code.{Code}
use Rattle.temp_code.specs.Realised.{AreRealised}
use Rattle.temp_code.specs.Routines.{routine_of}
use Rattle.color_code.specs.Colors.{Seats, IsColoring}
use Rattle.color_registers.specs.Registers.{colors_of}
use Rattle.color_transfer.specs.Code.{IsColoredRoutine}
use Rattle.color_image.specs.Laws.{HasStraightSpills}

-- a sound and tidy code of instructions, a colouring of it, and no temporary in a call
pub record MayBeColored (d : RawDescription) (t : Target) (seats : Seats) (c : Code) : Type 0 where
  pub sound : IsSound t (routine_of c)
  pub tidy : IsTidy t (routine_of c)
  pub coloring : IsColoring t (routine_of c) (colors_of d) seats
  pub realised : AreRealised d c
  pub calls : (k : ℕ) (b : Block) (x : Transfer) → slice_get c.blocks k ≡ Some b → b.end ≡ Call x → mentions is_temporary x.what ≡ false

-- both blocks end with the same call, or neither ends with one
abbrev pub HasSameCall : Block → Block → Type 0
HasSameCall old new = (x : Transfer) → (new.end ≡ Call x) ↔ (old.end ≡ Call x)

-- the code of the same function with loads, registers and stores in place of its temporaries, of instructions again
pub record IsColoredCode (d : RawDescription) (t : Target) (seats : Seats) (old new : Code) : Type 0 where
  pub function : new.function ≡ old.function
  pub routine : IsColoredRoutine t seats (routine_of old) (routine_of new)
  pub realised : AreRealised d new
  pub straight : HasStraightSpills t (routine_of new)
  pub calls : AllZip HasSameCall old.blocks new.blocks
