-- Colourings of a routine.
use Rattle.std.specs.Prelude.{◌≡◌, ◌≢◌, ◌⊎◌, ℕ, true, List, Option, Some, None}
use Rattle.rtl_tree.specs.declared.cells.Cell.TheVariants.{Temp}
use Rattle.rtl_tree.specs.Same.{same_cell}
use Rattle.temp_machine.specs.Routines.{Routine, Target}
use Rattle.temp_machine.specs.Cells.{uses}
use Rattle.temp_machine.specs.Live.{AreLiveAtOnce, LivesOverCall}
use Rattle.temp_machine.specs.Tidy.{is_among}

-- where each temporary is: in a register, or in its home
abbrev pub Seats : Type 0
Seats = ℕ → Option ℕ

-- temporaries that are live at once differ, each register is a colour, and what lives over a call is in its home
pub record IsColoring (t : Target) (r : Routine) (colors : List ℕ) (seats : Seats) : Type 0 where
  pub differ : (i j c : ℕ) → i ≢ j → AreLiveAtOnce t r i j → seats i ≡ Some c → seats j ≢ Some c
  pub among : (i c : ℕ) → seats i ≡ Some c → is_among c colors ≡ true
  pub over_call : (i : ℕ) → LivesOverCall t r i → seats i ≡ None

-- a temporary that is live at once with another one holds a colour
pub record IsHeldBeside (t : Target) (r : Routine) (seats : Seats) (i c : ℕ) : Type 0 where
  pub neighbor : ℕ
  pub other : i ≢ neighbor
  pub live : AreLiveAtOnce t r i neighbor
  pub holds : seats neighbor ≡ Some c

-- a temporary of the routine is in its home only where it lives over a call, or those that are live at once with it hold every colour
abbrev pub IsSparing : Target → Routine → List ℕ → Seats → Type 0
IsSparing t r colors seats =
    (i : ℕ) → uses (same_cell (Temp i)) r ≡ true → seats i ≡ None
    → LivesOverCall t r i ⊎ ((c : ℕ) → is_among c colors ≡ true → IsHeldBeside t r seats i c)
