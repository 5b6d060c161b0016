-- Codes that are written one behind the other are the linked program; an accepted description covers what linking adds.
use Rattle.std.specs.Prelude.{◌≡◌, ◌≢◌, ℕ, ◌++◌, AllPairs}
use Rattle.md_rows.specs.declared.description.RawDescription.{RawDescription}
use Rattle.temp_code.specs.declared.code.Unit.{Unit as Program}
use Rattle.temp_shapes.specs.declared.rows.ShapeRows.{ShapeRows}
use Rattle.md_check.specs.Checking.{IsChecked}
use Rattle.temp_shapes.specs.Rows.{AreShapeRows}
use Rattle.link_code.specs.Linked.{program, labels_of}
use Rattle.link_lines.specs.Glue.{job_of}
use Rattle.link_lines.specs.Lines.{AreAddedCovered, start_of, lines_of_codes, labels_of_codes}

pub record AreLinked (d : RawDescription) (t : ShapeRows) (u : Program) : Type 0 where
  pub lines : start_of d t (job_of d t u).p.main ++ lines_of_codes d t u.codes ≡ program (job_of d t u)
  pub labels : labels_of_codes d t 3 u.codes ≡ labels_of (job_of d t u) (job_of d t u).order

-- where they are of different functions
abbrev pub CodesAreLinked : Type 0
CodesAreLinked = (d : RawDescription) (t : ShapeRows) (u : Program) → AllPairs (λ b c. b.function ≢ c.function) u.codes → AreLinked d t u

abbrev pub AddedAreCovered : Type 0
AddedAreCovered = (w : ℕ) (d : RawDescription) (t : ShapeRows) → IsChecked w d → AreShapeRows d t → AreAddedCovered d t
