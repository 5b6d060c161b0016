-- What linking asks of a unit, and the program that it gives.
use Rattle.std.specs.Prelude.{◌≡◌, ◌≢◌, ℕ, ◌<◌, List, [], map, length, All, AllPairs, Contains}
use Rattle.md_rows.specs.declared.description.RawDescription.{RawDescription}
use Rattle.md_shapes.specs.Shapes.{Frame}
use Rattle.temp_machine.specs.Units.{IsImage}
use Rattle.temp_code.specs.declared.code.Code.{Code}
use Rattle.temp_code.specs.declared.code.Unit.{Unit as Program}
use Rattle.temp_code.specs.Realised.{AreRealised}
use Rattle.temp_code.specs.Routines.{image_of, number_in, main_name}
use Rattle.temp_shapes.specs.declared.rows.ShapeRows.{ShapeRows}
use Rattle.temp_shapes.specs.Rows.{AreShapeRows}
use Rattle.temp_laws.specs.Targets.{target_of}
use Rattle.asm_program.specs.Programs.{Assembled}
use Rattle.rtl_machine.specs.Loading.{moves_of}
use Rattle.link_code.specs.Linked.{program, labels_of}
use Rattle.link_lines.specs.Glue.{job_of}

abbrev pub functions_of : List Code → List ℕ
functions_of cs = map (λ c. c.function) cs

-- a unit that can be linked: codes of instructions of the description, of different functions with names, main among them
pub record IsLinkableUnit (d : RawDescription) (frame : Frame) (u : Program) : Type 0 where
  pub image : IsImage (target_of d frame []) (image_of u)
  pub different : AllPairs (λ b c. b.function ≢ c.function) u.codes
  pub has_blocks : All (λ c. 0 < length c.blocks) u.codes
  pub realised : All (AreRealised d) u.codes
  pub main : Contains (functions_of u.codes) (number_in u.names.functions main_name)
  pub functions : All (λ f. f < length u.names.functions) (functions_of u.codes)
  pub addresses : length u.symbols ≡ length u.names.objects

-- the program of a unit: the lines of its codes with the start before them, by rows of the description, and the labels at their lines
pub record IsLinkedBy (d : RawDescription) (u : Program) (p : Assembled) : Type 0 where
  pub rows : ShapeRows
  pub table : AreShapeRows d rows
  pub lines : map (moves_of d) p.lines ≡ program (job_of d rows u)
  pub labels : p.labels ≡ labels_of (job_of d rows u) (functions_of u.codes)
  pub symbols : p.symbols ≡ u.symbols
  pub bytes : p.bytes ≡ u.bytes
  pub names : p.names ≡ u.names
