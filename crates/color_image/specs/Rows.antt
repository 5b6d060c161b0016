-- Loads of homes and stores to them by the rows of a description.
use Rattle.std.specs.Prelude.{◌≡◌, ◌⊎◌, ℕ, true, List, Some}
use Rattle.rtl_tree.specs.declared.cells.Cell.TheVariants.{Hard}
use Rattle.md_rows.specs.declared.description.RawDescription.{RawDescription}
use Rattle.md_rows.specs.Fits.{is_in}
use Rattle.md_rows.specs.Instances.{general_set}
use Rattle.md_shapes.specs.declared.patterns.Pattern.TheVariants.{LoadHome, StoreHome}
use Rattle.md_shapes.specs.Shapes.{Frame, Open}
use Rattle.md_covers.specs.Covers.{frame_in}
use Rattle.md_check.specs.Checking.{IsChecked}
use Rattle.temp_code.specs.declared.code.Transfer.{Transfer}
use Rattle.temp_shapes.specs.Elementary.{IsTransferOf}
use Rattle.temp_laws.specs.Targets.{target_of}
use Rattle.color_image.specs.Laws.{IsStraightTransfer}

-- with a general register they neither jump nor move the stack
abbrev pub HomesAreStraight : Type 0
HomesAreStraight =
    (w : ℕ) (d : RawDescription) (frame : Frame) (kept : List ℕ) (at : Open) (n : ℕ) (t : Transfer) → IsChecked w d → frame_in d ≡ Some frame
    → at.a ≡ Hard n → is_in (general_set d.registers) n ≡ true → IsTransferOf d frame LoadHome at t ⊎ IsTransferOf d frame StoreHome at t
    → IsStraightTransfer (target_of d frame kept) t.what
