-- Laws of colourings.
use Rattle.std.specs.Prelude.{◌≡◌, ◌≢◌, ℕ, true, List, [], AllPairs}
use Rattle.rtl_tree.specs.declared.cells.Cell.TheVariants.{Temp}
use Rattle.rtl_tree.specs.Same.{same_cell}
use Rattle.temp_machine.specs.Routines.{Routine, Target}
use Rattle.temp_machine.specs.Cells.{uses}
use Rattle.temp_machine.specs.Tidy.{is_among}
use Rattle.color_code.specs.Colors.{IsColoring, IsSparing}
use Rattle.color_code.specs.Greedy.{Conflicts, AreConflicts, no_seats, greedy}

-- in whatever order the temporaries of a routine get their colours
abbrev pub GreedyIsSparing : Type 0
GreedyIsSparing =
    (t : Target) (r : Routine) (x : Conflicts) (colors order : List ℕ) → AreConflicts t r x → AllPairs (λ j k. j ≢ k) order
    → ((i : ℕ) → uses (same_cell (Temp i)) r ≡ true → is_among i order ≡ true)
    → IsColoring t r colors (greedy x colors order [] no_seats) × IsSparing t r colors (greedy x colors order [] no_seats)
