-- The row of a description for each shape.
use Rattle.std.specs.Prelude.{◌≡◌, ℕ, ◌<◌, get_or, slice_get, List, Option, Some, None}
use Rattle.md_rows.specs.declared.description.RawDescription.{RawDescription}
use Rattle.md_rows.specs.declared.row.Row.{Row}
use Rattle.md_shapes.specs.declared.table.Shape.{Shape}
use Rattle.md_shapes.specs.declared.patterns.Pattern.{Pattern}
use Rattle.md_shapes.specs.Patterns.{pattern_of}
use Rattle.md_shapes.specs.Shapes.{Frame, shape_by}
use Rattle.md_shapes.specs.Drawings.{frame_of}
use Rattle.md_covers.specs.Covers.{Covers, frame_in}
use Rattle.md_check.specs.Accepted.{IsCovered}
use Rattle.temp_shapes.specs.declared.rows.ShapeRows.{ShapeRows}

-- a row of the description that covers the shape, or none where no row does
abbrev pub IsRowOf : RawDescription → Shape → Option ℕ → Type 0
IsRowOf d s (Some k) = (row : Row) × (slice_get d.rows k ≡ Some row) × Covers d row s
IsRowOf d s None = IsCovered d s → ⊥

-- the table of a description: what it fixes of the shapes, and for each shape of the list a row
pub record AreShapeRows (d : RawDescription) (t : ShapeRows) : Type 0 where
  pub frame : frame_in d ≡ Some (frame_of d.word t.frame)
  pub rows : (i : ℕ) → i < 137 → IsRowOf d (shape_by i) (get_or t.rows i None)

-- a row covers a shape of this pattern
pub record CoversPattern (d : RawDescription) (row : Row) (pattern : Pattern) : Type 0 where
  pub shape : Shape
  pub pattern_is : pattern_of shape ≡ Some pattern
  pub covers : Covers d row shape

-- some row of the description does
pub record IsPatternCovered (d : RawDescription) (pattern : Pattern) : Type 0 where
  pub at : ℕ
  pub row : Row
  pub has : slice_get d.rows at ≡ Some row
  pub covers : CoversPattern d row pattern

-- a row of the description that covers the pattern, or none where no row does
abbrev pub IsRowFor : RawDescription → Pattern → Option ℕ → Type 0
IsRowFor d pattern (Some k) = (row : Row) × (slice_get d.rows k ≡ Some row) × CoversPattern d row pattern
IsRowFor d pattern None = IsPatternCovered d pattern → ⊥

-- the first rows of such a table
abbrev pub HasRows : RawDescription → List (Option ℕ) → ℕ → Type 0
HasRows d rows n = (i : ℕ) → i < n → IsRowOf d (shape_by i) (get_or rows i None)

-- a description has a stack register and a result register
pub record HasRoles (d : RawDescription) : Type 0 where
  pub frame : Frame
  pub is : frame_in d ≡ Some frame
