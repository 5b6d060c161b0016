-- How long a linked program is.
use Rattle.std.specs.Prelude.{◌≢◌, ℕ, ◌+◌, ◌≤◌, ◌<◌, ◌^◌, List, [], ◌∷◌, length, AllPairs}
use Rattle.std.specs.List.{AllZip}
use Rattle.md_rows.specs.declared.description.RawDescription.{RawDescription}
use Rattle.md_check.specs.Checking.{IsChecked}
use Rattle.asm_program.specs.Rules.{instruction_limit}
use Rattle.temp_machine.specs.Routines.{Target}
use Rattle.temp_machine.specs.Tidy.{padded_room}
use Rattle.temp_code.specs.declared.code.Code.{Code}
use Rattle.temp_code.specs.declared.code.Unit.{Unit as Program}
use Rattle.temp_code.specs.Routines.{routine_of}
use Rattle.temp_shapes.specs.declared.rows.ShapeRows.{ShapeRows}
use Rattle.color_steps.specs.Sizes.{IsSmall}
use Rattle.link_code.specs.Linked.{program}
use Rattle.link_lines.specs.Glue.{job_of}
use Rattle.link_lines.specs.Lines.{target}

-- the places of a program within the limit of its machine are words
abbrev pub ProgramIsShort : Type 0
ProgramIsShort = (w : ℕ) (d : RawDescription) (n : ℕ) → IsChecked w d → n ≤ instruction_limit d.word → n < 2 ^ d.word

-- the padded room of codes
abbrev pub rooms : Target → List Code → ℕ
rooms t [] = 0
rooms t (c ∷ cs) = padded_room t (routine_of c) + rooms t cs

-- where each code of a unit fits the room of an old code, the program has at most the lines of the start and the padded room of the old codes
abbrev pub RoomsAreEnough : Type 0
RoomsAreEnough =
    (d : RawDescription) (t : ShapeRows) (old : List Code) (u : Program) → AllPairs (λ b c. b.function ≢ c.function) u.codes
    → AllZip (λ b c. IsSmall (routine_of b) (routine_of c)) old u.codes → length (program (job_of d t u)) ≤ 3 + rooms (target d t) old
