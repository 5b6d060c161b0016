-- Rows that are found for loads of homes and for stores to them.
use Rattle.std.specs.Prelude.{◌≡◌, ℕ, ◌<◌, slice_index}
use Rattle.rtl_word.specs.Words.{IsWordSize}
use Rattle.rtl_tree.specs.declared.cells.Cell.TheVariants.{Hard}
use Rattle.md_rows.specs.declared.description.RawDescription.{RawDescription}
use Rattle.md_shapes.specs.declared.patterns.Pattern.TheVariants.{LoadHome, StoreHome}
use Rattle.md_shapes.specs.Shapes.{Frame, Open}
use Rattle.md_covers.specs.Numbers.{runs_of, IsNumberOf}
use Rattle.md_covers.specs.Covers.{general_bits, IsOpenOf}
use Rattle.md_check.specs.Checking.{IsChecked}
use Rattle.md_filled.specs.Doing.{DoesAs}
use Rattle.temp_machine.specs.Routines.{Routine, Target}
use Rattle.temp_machine.specs.Whole.{IsFramed}
use Rattle.temp_code.specs.declared.code.Transfer.{Transfer}
use Rattle.temp_shapes.specs.Elementary.{IsTransferOf}
use Rattle.color_spilling.specs.Spilling.{load_moves, store_moves, home_offset}

-- a transfer of the loading shape into a register does as a load
abbrev pub LoadsDo : Type 0
LoadsDo =
    (w : ℕ) (d : RawDescription) (frame : Frame) (at : Open) (t : Transfer) (register : ℕ) → IsChecked w d
    → IsOpenOf d.word (general_bits d.registers) LoadHome at → IsTransferOf d frame LoadHome at t → at.a ≡ Hard register
    → DoesAs d.word (load_moves frame.stack register at.number) t.what

-- one of the storing shape does as a store
abbrev pub StoresDo : Type 0
StoresDo =
    (w : ℕ) (d : RawDescription) (frame : Frame) (at : Open) (t : Transfer) (register : ℕ) → IsChecked w d
    → IsOpenOf d.word (general_bits d.registers) StoreHome at → IsTransferOf d frame StoreHome at t → at.a ≡ Hard register
    → DoesAs d.word (store_moves frame.stack register at.number) t.what

-- the offset of each home is a number of both shapes
abbrev pub HomesAreNumbers : Type 0
HomesAreNumbers =
    (t : Target) (r : Routine) (k : ℕ) → IsWordSize t.word → IsFramed t r → slice_index r.homes k < r.slots
    → IsNumberOf (runs_of t.word LoadHome) (home_offset t r k) × IsNumberOf (runs_of t.word StoreHome) (home_offset t r k)
