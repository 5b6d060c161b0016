-- Transfers of shapes.
use Rattle.std.specs.Prelude.{◌≡◌, true, false, Some}
use Rattle.rtl_tree.specs.declared.cells.Cell.{Cell}
use Rattle.rtl_tree.specs.declared.cells.Cell.TheVariants.{Temp}
use Rattle.rtl_tree.specs.Moves.{Move}
use Rattle.md_rows.specs.declared.description.RawDescription.{RawDescription}
use Rattle.md_rows.specs.declared.row.Row.{Row}
use Rattle.md_rows.specs.declared.instance.Bound.{Bound}
use Rattle.md_rows.specs.Instances.{IsInstance, effects_with, general_set}
use Rattle.md_match.specs.Searches.{Marks, no_marks, is_flag_of, is_idle}
use Rattle.md_match.specs.Does.{Takes, IsMarked, Does}
use Rattle.md_shapes.specs.declared.patterns.Pattern.{Pattern}
use Rattle.md_shapes.specs.Shapes.{Frame, Open, shape_moves, has_transfer}
use Rattle.md_covers.specs.Covers.{IsOpenOf, general_bits, frame_in}
use Rattle.temp_code.specs.declared.code.Transfer.{Transfer}
use Rattle.temp_shapes.specs.Patterns.{is_listed}

abbrev pub IsTemporary : Cell → Type 0
IsTemporary (Temp n) = Unit {0}
IsTemporary _ = ⊥

-- a shape of the list with temporaries, a number of the shape's, a symbol and a label
pub record IsShapeOf (d : RawDescription) (frame : Frame) (pattern : Pattern) (p : Open) : Type 0 where
  pub frame_is : frame_in d ≡ Some frame
  pub listed : is_listed pattern ≡ true
  pub transfer : has_transfer frame pattern ≡ true
  pub operands : IsOpenOf d.word (general_bits d.registers) pattern p
  pub a : IsTemporary p.a
  pub b : IsTemporary p.b

-- A transfer is elementary: the filled normal form of its row has for each assignment of a shape one of its own that is alike it, and the
-- others are to flags.
pub record IsElementary (d : RawDescription) (t : Transfer) : Type 0 where
  pub row : Row
  pub instance : IsInstance d t.by row
  pub effects : t.what ≡ effects_with row t.by.binding
  pub frame : Frame
  pub pattern : Pattern
  pub at : Open
  pub shape : IsShapeOf d frame pattern at
  pub marks : Marks
  pub takes : Takes row.normal t.by.binding no_marks (shape_moves frame pattern at) marks
  pub others : (r : Move) → IsMarked row.normal marks false r → is_flag_of 255 r.to ≡ true

-- A transfer is that of a shape: its row, with its binding, does the shape's. The row's other assignments are to flags, name no general
-- register by its number, and trap only where the shape's do.
pub record IsTransferOf (d : RawDescription) (frame : Frame) (pattern : Pattern) (p : Open) (t : Transfer) : Type 0 where
  pub row : Row
  pub instance : IsInstance d t.by row
  pub effects : t.what ≡ effects_with row t.by.binding
  pub marks : Marks
  pub does : Does d.word (general_set d.registers) row.holes (is_idle 255 (general_set d.registers)) row.normal (shape_moves frame pattern p) t.by.binding marks
