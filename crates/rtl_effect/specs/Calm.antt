-- Views in which all is set and all may be touched, as a machine's are, and outcomes that are no use of an unset value.
use Rattle.std.specs.Prelude.{ℕ, ◌≡◌, Bool, true, false, List, All, Option, Some, Result, Ok, Err}
use Rattle.rtl_tree.specs.declared.cells.Cell.{Cell}
use Rattle.rtl_tree.specs.declared.cells.Cell.TheVariants.{Hole}
use Rattle.rtl_tree.specs.declared.cells.Lab.{Lab}
use Rattle.rtl_tree.specs.Moves.{Goal, ToCell, Move}
use Rattle.rtl_value.specs.declared.state.Trap.{Trap}
use Rattle.rtl_effect.specs.Views.{View, Stop, Traps}
use Rattle.rtl_effect.specs.Effects.{Done}

pub data Given : Option ℕ → Type 0 where
  given : (n : ℕ) → Given (Some n)

-- each cell, byte and label is set, each byte may be touched, and a jump may go to each word
pub record IsSet (v : View) : Type 0 where
  pub cells : (c : Cell) → Given (v.cells c)
  pub bytes : (a : ℕ) → Given (v.bytes a)
  pub reach : (a : ℕ) → v.reach a ≡ true
  pub labels : (l : Lab) → Given (v.labels l)
  pub targets : (l : Lab) → Given (v.targets l)
  pub places : (n : ℕ) → Given (v.places n)

-- a trap, or something with P
pub data Calm (A : Type 0) (P : A → Type 0) : Result A Stop → Type 0 where
  traps : (t : Trap) → Calm A P (Err (Traps t))
  gives : (x : A) → P x → Calm A P (Ok x)

abbrev pub is_no_hole : Goal → Bool
is_no_hole (ToCell (Hole n)) = false
is_no_hole _ = true

abbrev pub AssignsNoHole : List Move → Type 0
AssignsNoHole ms = All (λ m. is_no_hole m.to ≡ true) ms

-- a transfer was made: all is set again, and so is the place to go on at
pub record IsMade (d : Done) : Type 0 where
  pub view : IsSet d.view
  pub place : Given d.place
