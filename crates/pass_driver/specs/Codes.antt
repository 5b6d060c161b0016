-- A naive code is one that colouring takes.
use Rattle.std.specs.Prelude.{ℕ, Contains}
use Rattle.md_rows.specs.declared.description.RawDescription.{RawDescription}
use Rattle.md_check.specs.Checking.{IsChecked}
use Rattle.c_tree.specs.declared.typed.Typed.{Typed}
use Rattle.temp_code.specs.declared.code.Code.{Code}
use Rattle.temp_code.specs.declared.code.Unit.{Unit as Program}
use Rattle.temp_code.specs.Routines.{routine_of}
use Rattle.color_code.specs.Colors.{Seats, IsColoring}
use Rattle.color_registers.specs.Registers.{colors_of}
use Rattle.color_graph.specs.Meeting.{HaveHomes}
use Rattle.reg_color.specs.Codes.{MayBeColored}
use Rattle.naive_expand.specs.Codes.{machine_of}
use Rattle.naive_expand.specs.Units.{IsNaiveCode}

-- its temporaries have homes, and it may be coloured by each colouring that it has
abbrev pub ColorsAreMet : Type 0
ColorsAreMet =
    (w : ℕ) (d : RawDescription) (t : Typed) (u : Program) → IsChecked w d → (n : IsNaiveCode d t u) → (c : Code) → Contains u.codes c
    → HaveHomes (routine_of c)
    × ((seats : Seats) → IsColoring (machine_of d n.frame) (routine_of c) (colors_of d) seats → MayBeColored d (machine_of d n.frame) seats c)
