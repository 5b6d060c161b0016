-- What is written for a program is a text of it.
use Rattle.std.specs.Prelude.{◌≡◌, ℕ, List}
use Rattle.md_rows.specs.declared.description.RawDescription.{RawDescription}
use Rattle.md_check.specs.Checking.{IsChecked}
use Rattle.asm_program.specs.TextLines.{Said}
use Rattle.asm_program.specs.Programs.{Assembled, IsAssembled, IsText}
use Rattle.asm_program.specs.Law.{HaveNames}
use Rattle.asm_print.specs.Written.{text_of}
use Rattle.asm_print.specs.Layout.{AreLinesFor}
use Rattle.asm_print.specs.Printable.{IsProgramFor}

-- the bytes are laid out as the writer does, and the lines are those of the program
pub record IsLaidOut (d : RawDescription) (p : Assembled) (text : List ℕ) : Type 0 where
  pub lines : List Said
  pub are_lines : AreLinesFor d p lines
  pub text_is : text ≡ text_of lines

-- the lines of a program, as they are written, are a text of which it is the program
abbrev pub LinesAreText : Type 0
LinesAreText =
    (w : ℕ) (d : RawDescription) (p : Assembled) (text : List ℕ) → IsChecked w d → IsAssembled p → HaveNames p.names → IsProgramFor d p → IsLaidOut d p text
    → IsText d text p

-- the program of a text is one that is printed
abbrev pub TextsArePrintable : Type 0
TextsArePrintable =
    (w : ℕ) (d : RawDescription) (p : Assembled) (text : List ℕ) → IsChecked w d → IsAssembled p → HaveNames p.names → IsText d text p → IsProgramFor d p
