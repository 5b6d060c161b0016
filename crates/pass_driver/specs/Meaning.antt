-- A source, its naive code, that code coloured, and the program that it is linked to.
use Rattle.std.specs.Prelude.{◌≡◌, ℕ, List, []}
use Rattle.behaviour.specs.Run.{AreBytes, Same}
use Rattle.md_rows.specs.declared.description.RawDescription.{RawDescription}
use Rattle.md_check.specs.Checking.{IsChecked}
use Rattle.asm_program.specs.Programs.{Assembled}
use Rattle.c_tree.specs.declared.typed.Typed.{Typed}
use Rattle.c_limits.specs.Limits.{limit_faults}
use Rattle.c_meaning.specs.Settings.{setting_of}
use Rattle.c_meaning.specs.Run.{source_run, IsClean}
use Rattle.machine_run.specs.Machine.{machine_run}
use Rattle.rtl_machine.specs.Loading.{code_of}
use Rattle.temp_code.specs.declared.code.Unit.{Unit as Program}
use Rattle.color_units.specs.Units.{IsColoredUnit}
use Rattle.frame_link.specs.Linked.{IsLinkedBy}
use Rattle.naive_expand.specs.Units.{IsNaiveCode}

-- a program is that of a source within the limits, by these units on the way
pub record IsCompiledBy (d : RawDescription) (t : Typed) (u v : Program) (p : Assembled) : Type 0 where
  pub naive : IsNaiveCode d t u
  pub room : ℕ
  pub within : limit_faults [] d.word room t ≡ []
  pub colored : IsColoredUnit d naive.frame u v
  pub linked : IsLinkedBy d v p

-- on each input of bytes on which the source does nothing undefined, the program does on the machine what the source does
abbrev pub CompiledIsSame : Type 0
CompiledIsSame =
    (w : ℕ) (d : RawDescription) (t : Typed) (u v : Program) (p : Assembled) → IsChecked w d → IsCompiledBy d t u v p
    → (input : List ℕ) → AreBytes input → IsClean (setting_of [] d.word d.stack) t input
    → Same (source_run (setting_of [] d.word d.stack) t input) (machine_run (code_of d p) input)
