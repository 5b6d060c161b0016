-- A unit of naive codes that is coloured.
use Rattle.std.specs.Prelude.{◌≡◌, ◌≤◌, ℕ, [], length}
use Rattle.md_rows.specs.declared.description.RawDescription.{RawDescription}
use Rattle.md_check.specs.Checking.{IsChecked}
use Rattle.c_tree.specs.declared.typed.Typed.{Typed}
use Rattle.c_limits.specs.Limits.{limit_faults}
use Rattle.asm_program.specs.Rules.{instruction_limit}
use Rattle.temp_machine.specs.Keeps.{Keeps}
use Rattle.temp_code.specs.declared.code.Unit.{Unit as Program}
use Rattle.temp_code.specs.Routines.{image_of}
use Rattle.temp_shapes.specs.declared.rows.ShapeRows.{ShapeRows}
use Rattle.temp_shapes.specs.Rows.{AreShapeRows}
use Rattle.color_units.specs.Units.{IsColoredUnit}
use Rattle.link_code.specs.Linked.{program}
use Rattle.link_lines.specs.Glue.{job_of}
use Rattle.frame_link.specs.Linked.{IsLinkableUnit}
use Rattle.link_runs.specs.Units.{IsUnitOf}
use Rattle.naive_expand.specs.Codes.{machine_of}
use Rattle.naive_expand.specs.Units.{IsNaiveCode}

-- it does what the naive unit does
abbrev pub UnitsAreKept : Type 0
UnitsAreKept =
    (w : ℕ) (d : RawDescription) (t : Typed) (u v : Program) → IsChecked w d → (n : IsNaiveCode d t u) → IsColoredUnit d n.frame u v
    → Keeps (machine_of d n.frame) (image_of v) (image_of u)

-- where the source is within the limits, it can be linked
pub record CanBeLinked (d : RawDescription) (t : Typed) (u v : Program) (n : IsNaiveCode d t u) : Type 0 where
  pub linkable : IsLinkableUnit d n.frame v
  pub unit : IsUnitOf d n.frame v

abbrev pub UnitsAreLinkable : Type 0
UnitsAreLinkable =
    (w room : ℕ) (d : RawDescription) (t : Typed) (u v : Program) → IsChecked w d → (n : IsNaiveCode d t u) → limit_faults [] d.word room t ≡ []
    → IsColoredUnit d n.frame u v → CanBeLinked d t u v n

-- and its program is within the limit of the machine
abbrev pub ProgramsAreShort : Type 0
ProgramsAreShort =
    (w room : ℕ) (d : RawDescription) (t : Typed) (u v : Program) (rows : ShapeRows) → IsChecked w d → (n : IsNaiveCode d t u)
    → limit_faults [] d.word room t ≡ [] → IsColoredUnit d n.frame u v → AreShapeRows d rows
    → length (program (job_of d rows v)) ≤ instruction_limit d.word
