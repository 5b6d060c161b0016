-- A linked unit does on the machine what the unit does.
use Rattle.std.specs.Prelude.{◌≡◌, ℕ, ◌≤◌, [], map, length, Some, All}
use Rattle.behaviour.specs.Run.{Keep}
use Rattle.md_rows.specs.declared.description.RawDescription.{RawDescription}
use Rattle.md_shapes.specs.Shapes.{Frame}
use Rattle.md_covers.specs.Covers.{frame_in}
use Rattle.md_check.specs.Checking.{IsChecked}
use Rattle.asm_program.specs.Programs.{Assembled}
use Rattle.asm_program.specs.Rules.{instruction_limit}
use Rattle.machine_run.specs.Machine.{machine_run}
use Rattle.rtl_machine.specs.Loading.{moves_of, code_of}
use Rattle.temp_machine.specs.Units.{IsImage}
use Rattle.temp_machine.specs.Machine.{temporary_run}
use Rattle.temp_code.specs.declared.code.Unit.{Unit as Program}
use Rattle.temp_code.specs.Routines.{image_of}
use Rattle.temp_shapes.specs.declared.rows.ShapeRows.{ShapeRows}
use Rattle.temp_shapes.specs.Rows.{AreShapeRows}
use Rattle.temp_laws.specs.Targets.{target_of}
use Rattle.link_code.specs.Linked.{program, labels_of}
use Rattle.link_lines.specs.Glue.{job_of}
use Rattle.row_links.specs.Jobs.{IsLinkedCode, functions_of}

-- a unit of instructions without temporaries
pub record IsUnitOf (d : RawDescription) (frame : Frame) (u : Program) : Type 0 where
  pub image : IsImage (target_of d frame []) (image_of u)
  pub codes : All (IsLinkedCode d frame (functions_of u)) u.codes

-- a program is what linking a unit makes
pub record HasLinked (d : RawDescription) (t : ShapeRows) (u : Program) (p : Assembled) : Type 0 where
  pub lines : map (moves_of d) p.lines ≡ program (job_of d t u)
  pub labels : p.labels ≡ labels_of (job_of d t u) (functions_of u)
  pub symbols : p.symbols ≡ u.symbols
  pub bytes : p.bytes ≡ u.bytes

-- on each input of bytes on which the unit never fails, its program never fails either and does the same
abbrev pub LinkedUnitsKeep : Type 0
LinkedUnitsKeep =
    (w : ℕ) (d : RawDescription) (frame : Frame) (t : ShapeRows) (u : Program) (p : Assembled) → IsChecked w d → frame_in d ≡ Some frame
    → AreShapeRows d t → IsUnitOf d frame u → HasLinked d t u p → length p.lines ≤ instruction_limit d.word
    → Keep (machine_run (code_of d p)) (temporary_run (target_of d frame []) (image_of u))
