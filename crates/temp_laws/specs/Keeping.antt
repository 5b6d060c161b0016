-- The cells that a transfer of a shape sets and names.
use Rattle.std.specs.Prelude.{◌≡◌, ℕ, Bool, true, false}
use Rattle.rtl_tree.specs.declared.cells.Cell.{Cell}
use Rattle.rtl_tree.specs.declared.cells.Cell.TheVariants.{Hard, Flag, Pc, Input, Output, Halt}
use Rattle.md_rows.specs.declared.description.RawDescription.{RawDescription}
use Rattle.md_rows.specs.Fits.{is_in}
use Rattle.md_rows.specs.Instances.{general_set}
use Rattle.md_shapes.specs.declared.patterns.Pattern.{Pattern}
use Rattle.md_shapes.specs.Shapes.{Frame, Open, shape_moves}
use Rattle.md_check.specs.Checking.{IsChecked}
use Rattle.temp_machine.specs.Cells.{some_set, mentions, reads}
use Rattle.temp_code.specs.declared.code.Transfer.{Transfer}
use Rattle.temp_shapes.specs.Elementary.{IsTransferOf}

-- it sets the cells that its shape sets, and else flags alone
abbrev pub SetsAreShapes : Type 0
SetsAreShapes =
    (w : ℕ) (d : RawDescription) (frame : Frame) (pattern : Pattern) (at : Open) (t : Transfer) → IsChecked w d → IsTransferOf d frame pattern at t
    → (p : Cell → Bool) → ((n : ℕ) → p (Flag n) ≡ false) → some_set p t.what ≡ some_set p (shape_moves frame pattern at)

abbrev pub SetsAreKept : Type 0
SetsAreKept =
    (w : ℕ) (d : RawDescription) (frame : Frame) (pattern : Pattern) (at : Open) (t : Transfer) → IsChecked w d → IsTransferOf d frame pattern at t
    → (p : Cell → Bool) → some_set p (shape_moves frame pattern at) ≡ true → some_set p t.what ≡ true

-- a property of temporaries and general registers alone
pub record IsOfOperands (g : ℕ) (p : Cell → Bool) : Type 0 where
  pub hard : (k : ℕ) → p (Hard k) ≡ true → is_in g k ≡ true
  pub flags : (n : ℕ) → p (Flag n) ≡ false
  pub counter : p Pc ≡ false
  pub input : p Input ≡ false
  pub output : p Output ≡ false
  pub halt : p Halt ≡ false

-- it names no temporary and no general register that its shape doesn't name; what it assigns to flags may read what the shape sets
abbrev pub NamesAreShapes : Type 0
NamesAreShapes =
    (w : ℕ) (d : RawDescription) (frame : Frame) (pattern : Pattern) (at : Open) (t : Transfer) → IsChecked w d → IsTransferOf d frame pattern at t
    → (p : Cell → Bool) → IsOfOperands (general_set d.registers) p → mentions p (shape_moves frame pattern at) ≡ false → mentions p t.what ≡ false

-- and it reads no flag that its shape doesn't read
abbrev pub FlagsAreShapes : Type 0
FlagsAreShapes =
    (w : ℕ) (d : RawDescription) (frame : Frame) (pattern : Pattern) (at : Open) (t : Transfer) → IsChecked w d → IsTransferOf d frame pattern at t
    → (n : ℕ) → reads (Flag n) (shape_moves frame pattern at) ≡ false → reads (Flag n) t.what ≡ false
