-- The temporaries that a transfer of a shape reads beside what it assigns to flags.
use Rattle.std.specs.Prelude.{◌≡◌, ℕ, false}
use Rattle.rtl_tree.specs.declared.cells.Cell.TheVariants.{Temp}
use Rattle.md_rows.specs.declared.description.RawDescription.{RawDescription}
use Rattle.md_shapes.specs.declared.patterns.Pattern.{Pattern}
use Rattle.md_shapes.specs.Shapes.{Frame, Open, shape_moves}
use Rattle.md_check.specs.Checking.{IsChecked}
use Rattle.temp_machine.specs.Cells.{reads_beside_flags}
use Rattle.temp_code.specs.declared.code.Transfer.{Transfer}
use Rattle.temp_shapes.specs.Elementary.{IsTransferOf}

-- it reads none that its shape doesn't read
abbrev pub ReadsAreShapes : Type 0
ReadsAreShapes =
    (w : ℕ) (d : RawDescription) (frame : Frame) (pattern : Pattern) (at : Open) (t : Transfer) → IsChecked w d → IsTransferOf d frame pattern at t
    → (n : ℕ) → reads_beside_flags (Temp n) (shape_moves frame pattern at) ≡ false → reads_beside_flags (Temp n) t.what ≡ false
