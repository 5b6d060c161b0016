-- The numbers of the lines that linking writes are those of their shapes.
use Rattle.rtl_word.specs.Words.{IsWordSize}
use Rattle.std.specs.Prelude.{◌-◌}
use Rattle.md_shapes.specs.declared.patterns.Pattern.TheVariants.{MoveStack, SaveLink, RestoreLink}
use Rattle.md_covers.specs.Numbers.{runs_of, IsNumberOf}
use Rattle.temp_machine.specs.Routines.{Routine, Target, word_bytes}
use Rattle.temp_machine.specs.Whole.{IsFramed}
use Rattle.link_code.specs.Linked.{minus}

-- the stack register moves by the frame, down and up, and the link register is saved below the homes
pub record HasNumbers (t : Target) (r : Routine) : Type 0 where
  pub up : IsNumberOf (runs_of t.word MoveStack) r.frame
  pub down : IsNumberOf (runs_of t.word MoveStack) (minus t r.frame)
  pub save : IsNumberOf (runs_of t.word SaveLink) (r.first_home - word_bytes t)
  pub fetch : IsNumberOf (runs_of t.word RestoreLink) (r.first_home - word_bytes t)

abbrev pub FramesAreNumbers : Type 0
FramesAreNumbers = (t : Target) (r : Routine) → IsWordSize t.word → IsFramed t r → HasNumbers t r
