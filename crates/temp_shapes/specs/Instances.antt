-- The instance of a row that does a transfer.
use Rattle.std.specs.Prelude.{◌≡◌, ℕ, ◌≤◌, List, length}
use Rattle.rtl_tree.specs.Moves.{Move}
use Rattle.md_rows.specs.declared.description.RawDescription.{RawDescription}
use Rattle.md_rows.specs.declared.row.Row.{Row}
use Rattle.md_rows.specs.declared.instance.Instance.{Instance}
use Rattle.md_rows.specs.Instances.{IsInstance, general_set}
use Rattle.md_match.specs.Searches.{Marks, is_idle}
use Rattle.md_match.specs.Does.{Does}
use Rattle.md_shapes.specs.declared.patterns.Pattern.{Pattern}
use Rattle.md_shapes.specs.Shapes.{Frame, Open, shape_moves}
use Rattle.md_covers.specs.Covers.{IsReadRow, IsDoneBySome}

-- a row that some binding makes do a transfer, its other assignments going to flags and naming no general register
pub record IsDoer (w g : ℕ) (row : Row) (es : List Move) : Type 0 where
  pub few : length row.holes ≤ 8
  pub read : IsReadRow w row
  pub done : IsDoneBySome w g row.holes row.normal es

-- an instruction of that row which does it
pub record IsDoing (w g : ℕ) (row : Row) (place : ℕ) (es : List Move) (i : Instance) : Type 0 where
  pub at : i.row ≡ place
  pub marks : Marks
  pub does : Does w g row.holes (is_idle 255 g) row.normal es i.binding marks

-- an instance of the description that does the transfer of a shape
pub record IsInstanceOf (d : RawDescription) (frame : Frame) (pattern : Pattern) (p : Open) (i : Instance) : Type 0 where
  pub row : Row
  pub instance : IsInstance d i row
  pub marks : Marks
  pub does : Does d.word (general_set d.registers) row.holes (is_idle 255 (general_set d.registers)) row.normal (shape_moves frame pattern p) i.binding marks
