-- Rows that are found for the transfers that linking writes.
use Rattle.std.specs.Prelude.{◌≡◌, ◌⊎◌, ℕ, List, Some}
use Rattle.rtl_tree.specs.declared.cells.Lab.{Lab}
use Rattle.rtl_tree.specs.declared.cells.Lab.TheVariants.{Block, Function}
use Rattle.rtl_tree.specs.Moves.{Move}
use Rattle.md_rows.specs.declared.description.RawDescription.{RawDescription}
use Rattle.md_shapes.specs.declared.patterns.Pattern.{Pattern}
use Rattle.md_shapes.specs.declared.patterns.Pattern.TheVariants.{MoveStack, SetStack, Call, Return, SaveLink, RestoreLink, Halt}
use Rattle.md_shapes.specs.Shapes.{Frame, Open, shape_moves}
use Rattle.md_covers.specs.Covers.{general_bits, IsOpenOf, frame_in}
use Rattle.md_check.specs.Checking.{IsChecked}
use Rattle.temp_code.specs.declared.code.Transfer.{Transfer}
use Rattle.temp_shapes.specs.Elementary.{IsTransferOf}
use Rattle.temp_laws.specs.Conditions.{on_temporaries}
use Rattle.temp_laws.specs.Targets.{target_of}
use Rattle.link_code.specs.Linked.{Glue}
use Rattle.link_code.specs.Runs.{DoesAs, IsGlue}

-- on the machine, where labels are places, a transfer of a shape does as the shape
abbrev pub ShapesRun : Type 0
ShapesRun =
    (w : ℕ) (d : RawDescription) (frame : Frame) (pattern : Pattern) (at : Open) (t : Transfer) → IsChecked w d
    → IsOpenOf d.word (general_bits d.registers) pattern at → IsTransferOf d frame pattern at t → DoesAs d.word t.what (shape_moves frame pattern at)

-- a shape that needs a number and a label at most
abbrev pub shape_at : Frame → Pattern → ℕ → Lab → List Move
shape_at frame pattern n l = shape_moves frame pattern (on_temporaries 0 1 n 0 l)

-- a transfer that was found for such a shape
pub record IsFound (d : RawDescription) (frame : Frame) (pattern : Pattern) (n : ℕ) (l : Lab) (ms : List Move) : Type 0 where
  pub transfer : Transfer
  pub at : Open
  pub number : at.number ≡ n
  pub label : at.label ≡ l
  pub operands : IsOpenOf d.word (general_bits d.registers) pattern at
  pub of_shape : IsTransferOf d frame pattern at transfer
  pub what : transfer.what ≡ ms

-- it was found, or it is the shape itself, where no line has it
abbrev pub IsMade : RawDescription → Frame → Pattern → ℕ → Lab → List Move → Type 0
IsMade d frame pattern n l ms = (ms ≡ shape_at frame pattern n l) ⊎ IsFound d frame pattern n l ms

-- a shape without a label is the same for each
abbrev pub no_label : Lab
no_label = Block 0

-- the transfers that linking writes are those of shapes
pub record IsRowGlue (d : RawDescription) (frame : Frame) (g : Glue) : Type 0 where
  pub set_stack : IsMade d frame SetStack 0 no_label g.set_stack
  pub move_stack : (n : ℕ) → IsMade d frame MoveStack n no_label (g.move_stack n)
  pub calling : (f : ℕ) → IsMade d frame Call 0 (Function f) (g.calling f)
  pub going_back : IsMade d frame Return 0 no_label g.going_back
  pub save : (z k : ℕ) → frame.link ≡ Some z → IsMade d frame SaveLink k no_label (g.save k)
  pub fetch : (z k : ℕ) → frame.link ≡ Some z → IsMade d frame RestoreLink k no_label (g.fetch k)
  pub finish : IsMade d frame Halt 0 no_label g.finish

-- and do as linking asks
abbrev pub RowGlueDoes : Type 0
RowGlueDoes =
    (w : ℕ) (d : RawDescription) (frame : Frame) (g : Glue) (kept : List ℕ) → IsChecked w d → frame_in d ≡ Some frame → IsRowGlue d frame g
    → IsGlue (target_of d frame kept) frame.link g
