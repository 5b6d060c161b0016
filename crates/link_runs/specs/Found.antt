-- What linking finds in the rows of a description is what its laws ask.
use Rattle.std.specs.Prelude.{◌≡◌, ℕ, true, Some}
use Rattle.rtl_tree.specs.declared.cells.Lab.{Lab}
use Rattle.md_rows.specs.declared.description.RawDescription.{RawDescription}
use Rattle.md_rows.specs.declared.instance.Instance.{Instance}
use Rattle.md_shapes.specs.declared.patterns.Pattern.{Pattern}
use Rattle.md_shapes.specs.Drawings.{frame_of}
use Rattle.md_covers.specs.Numbers.{runs_of, IsNumberOf}
use Rattle.md_check.specs.Checking.{IsChecked}
use Rattle.temp_shapes.specs.declared.rows.ShapeRows.{ShapeRows}
use Rattle.temp_shapes.specs.Rows.{AreShapeRows}
use Rattle.rtl_machine.specs.Loading.{moves_of}
use Rattle.link_rows.specs.Added.{is_added, found}
use Rattle.link_lines.specs.Glue.{glue_of}
use Rattle.row_links.specs.Glue.{IsFound, IsRowGlue}

-- the instruction that is found for a shape at one of its numbers does that shape
abbrev pub FoundIsInstance : Type 0
FoundIsInstance =
    (w : ℕ) (d : RawDescription) (t : ShapeRows) (pattern : Pattern) (n : ℕ) (l : Lab) (i : Instance) → IsChecked w d → AreShapeRows d t
    → is_added pattern ≡ true → IsNumberOf (runs_of d.word pattern) n → found d t pattern n l ≡ Some i
    → IsFound d (frame_of d.word t.frame) pattern n l (moves_of d i)

-- so the transfers that linking adds are those of shapes
abbrev pub GlueIsOfRows : Type 0
GlueIsOfRows =
    (w : ℕ) (d : RawDescription) (t : ShapeRows) → IsChecked w d → AreShapeRows d t → IsRowGlue d (frame_of d.word t.frame) (glue_of d t)
