-- A linked unit does what the unit does: all that the law of linking asks is there.
use Rattle.std.proofs.Common.{◌≡◌, ℕ, ◌≤◌, ◌<◌, ◌^◌, List, [], length, refl, sym, subst, ap, ◌∙◌}
use Rattle.std.proofs.lemmas.List.{length-map}
use Rattle.behaviour.specs.Run.{Keep}
use Rattle.rtl_tree.specs.Moves.{Move}
use Rattle.md_rows.specs.declared.description.RawDescription.{RawDescription}
use Rattle.md_shapes.specs.Shapes.{Frame}
use Rattle.md_shapes.specs.Drawings.{frame_of}
use Rattle.md_check.specs.Checking.{IsChecked}
use Rattle.md_filled.proofs.Doing.{some_same}
use Rattle.asm_program.specs.Programs.{Assembled}
use Rattle.asm_program.specs.Rules.{instruction_limit}
use Rattle.machine_run.specs.Machine.{machine_run}
use Rattle.rtl_machine.specs.Loading.{moves_of, code_of}
use Rattle.temp_machine.specs.Machine.{temporary_run}
use Rattle.temp_code.specs.declared.code.Unit.{Unit as Program}
use Rattle.temp_code.specs.Routines.{image_of}
use Rattle.temp_shapes.specs.declared.rows.ShapeRows.{ShapeRows}
use Rattle.temp_shapes.specs.Rows.{AreShapeRows}
use Rattle.temp_laws.specs.Targets.{target_of}
use Rattle.link_code.specs.Linked.{program}
use Rattle.link_code.specs.Runs.{IsLinked, LinkedKeeps}
use Rattle.link_code.specs.Sound.{SoundIsLinkable}
use Rattle.link_lines.specs.Glue.{job_of}
use Rattle.row_links.specs.Jobs.{IsUnitJob, JobsAreSound, JobsAreFlat}
use Rattle.link_runs.specs.Found.{GlueIsOfRows}
use Rattle.link_runs.specs.Sizes.{ProgramIsShort}
use Rattle.link_runs.specs.Units.{IsUnitOf, HasLinked, LinkedUnitsKeep}

module _ (glue : GlueIsOfRows) (short : ProgramIsShort) (sound : JobsAreSound) (flat : JobsAreFlat) (linkable : SoundIsLinkable) (keeps : LinkedKeeps)
    (w : ℕ) (d : RawDescription) (t : ShapeRows) (u : Program) (p : Assembled) (c : IsChecked w d) (rows : AreShapeRows d t)
    (linked : HasLinked d t u p) (few : length p.lines ≤ instruction_limit d.word) where
  program_short : length (program (job_of d t u)) < 2 ^ d.word
  program_short =
      let same : length p.lines ≡ length (program (job_of d t u)) =
      sym (length-map p.lines (moves_of d)) ∙ ap (λ (xs : List (List Move)). length xs) linked.lines in
      subst (λ (n : ℕ). n < 2 ^ d.word) same (short w d (length p.lines) c few)

  unit_job : IsUnitOf d (frame_of d.word t.frame) u → IsUnitJob d (frame_of d.word t.frame) u (job_of d t u)
  unit_job unit = record {
    target = refl;
    image = refl;
    order = refl;
    glue = glue w d t c rows;
    sound = unit.image;
    codes = unit.codes;
    short = program_short;
  }

  program_linked : IsUnitOf d (frame_of d.word t.frame) u → IsLinked (job_of d t u) (code_of d p)
  program_linked unit = record {
    bits = refl;
    size = refl;
    lines = linked.lines;
    labels = linked.labels;
    symbols = linked.symbols;
    base = refl;
    bytes = linked.bytes;
    flat = flat w d (frame_of d.word t.frame) u (job_of d t u) c rows.frame (unit_job unit);
  }

  table_keeps : IsUnitOf d (frame_of d.word t.frame) u
      → Keep (machine_run (code_of d p)) (temporary_run (target_of d (frame_of d.word t.frame) []) (image_of u))
  table_keeps unit =
      keeps (job_of d t u) (linkable (job_of d t u) (sound w d (frame_of d.word t.frame) u (job_of d t u) c rows.frame (unit_job unit)))
      (code_of d p) (program_linked unit)

pub units_keep : GlueIsOfRows → ProgramIsShort → JobsAreSound → JobsAreFlat → SoundIsLinkable → LinkedKeeps → LinkedUnitsKeep
units_keep glue short sound flat linkable keeps w d frame t u p c is rows unit linked few =
    let same : frame_of d.word t.frame ≡ frame = some_same (frame_of d.word t.frame) frame (sym rows.frame ∙ is) in
    subst (λ (f : Frame). IsUnitOf d f u → Keep (machine_run (code_of d p)) (temporary_run (target_of d f []) (image_of u))) same
    (table_keeps glue short sound flat linkable keeps w d t u p c rows linked few) unit
