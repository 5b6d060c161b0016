-- A coloured image is an image again.
use Rattle.std.specs.Prelude.{◌≡◌, ◌↔◌, ℕ, ◌-◌, ◌^◌, ◌≤◌, true, false, List, slice_get, Some}
use Rattle.rtl_tree.specs.declared.cells.Cell.TheVariants.{Hard, Pc}
use Rattle.rtl_tree.specs.Moves.{Move}
use Rattle.md_filled.specs.Doing.{DoesAs}
use Rattle.temp_machine.specs.Routines.{Calls, BasicBlock, Routine, Image, Target}
use Rattle.temp_machine.specs.Cells.{sets, has_temporaries}
use Rattle.temp_machine.specs.Live.{Place, Transfer, item_at}
use Rattle.temp_machine.specs.Tidy.{room}
use Rattle.temp_machine.specs.Units.{IsImage}
use Rattle.color_code.specs.Colors.{Seats}
use Rattle.color_spilling.specs.Spilling.{load_moves, store_moves}
use Rattle.color_table.specs.Tables.{Table}
use Rattle.color_steps.specs.Laws.{IsColoredProgram}

-- a transfer does as a load of a general register from the frame, or as a store of one there
pub data IsSpill (t : Target) (ms : List Move) : Type 0 where
  loads : (register offset : ℕ) → t.general register ≡ true → DoesAs t.word (load_moves t.sp register offset) ms → IsSpill t ms
  stores : (register offset : ℕ) → t.general register ≡ true → DoesAs t.word (store_moves t.sp register offset) ms → IsSpill t ms

-- it neither jumps nor moves the stack
pub record IsStraightTransfer (t : Target) (ms : List Move) : Type 0 where
  pub counter : sets Pc ms ≡ false
  pub stack : sets (Hard t.sp) ms ≡ false

-- so it is with the loads and stores of a routine (of what else it sets, what a transfer does says nothing)
abbrev pub HasStraightSpills : Target → Routine → Type 0
HasStraightSpills t r = (p : Place) (ms : List Move) → item_at r p ≡ Some (Transfer ms) → IsSpill t ms → IsStraightTransfer t ms

-- block for block both call, by the same transfer, or neither does
abbrev pub HaveSameCalls : Routine → Routine → Type 0
HaveSameCalls old new =
    (k : ℕ) (b c : BasicBlock) (ms : List Move) → slice_get old.blocks k ≡ Some b → slice_get new.blocks k ≡ Some c → (c.exit ≡ Calls ms) ↔ (b.exit ≡ Calls ms)

-- an image without temporaries, with the calls of another one
pub record IsPlainImage (t : Target) (old new : Image) : Type 0 where
  pub image : IsImage t new
  pub plain : (f : ℕ) → has_temporaries (new.routines f) ≡ false
  pub calls : (f : ℕ) → HaveSameCalls (old.routines f) (new.routines f)

-- the coloured image is one, where the old code has little enough room and loads and stores are straight
abbrev pub ColoredIsImage : Type 0
ColoredIsImage =
    (t : Target) (old new : Image) (colors : ℕ → List ℕ) (seats : ℕ → Seats) (live : ℕ → Table) → IsColoredProgram t old new colors seats live
    → ((f : ℕ) → room (old.routines f) ≤ 2 ^ 32 - 2) → ((f : ℕ) → HasStraightSpills t (new.routines f)) → IsPlainImage t old new
