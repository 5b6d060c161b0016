-- What an accepted description's memory is bounded by, and what the transfers of its rows may be.
use Rattle.std.specs.Prelude.{◌≡◌, ℕ, ◌<◌, ◌/◌, ◌%◌, ◌^◌, List, slice_get, Some, All}
use Rattle.rtl_tree.specs.declared.cells.Cell.{Cell}
use Rattle.rtl_tree.specs.declared.cells.Cell.TheVariants.{Hard, Flag}
use Rattle.rtl_tree.specs.Trees.{Tree, Read, Load, Unary, Binary}
use Rattle.rtl_tree.specs.Moves.{Goal, ToCell, ToMemory, Move}
use Rattle.rtl_tree.specs.WellFormed.{IsWellFormed}
use Rattle.md_rows.specs.declared.description.RawDescription.{RawDescription}
use Rattle.md_rows.specs.declared.row.Row.{Row}
use Rattle.md_text.specs.Accepted.{Says}

-- registers have numbers below 64, flags below 8
abbrev pub IsBoundedCell : Cell → Type 0
IsBoundedCell (Hard n) = n < 64
IsBoundedCell (Flag n) = n < 8
IsBoundedCell _ = Unit {0}

abbrev pub IsBoundedTree : Tree → Type 0
IsBoundedTree (Read c) = IsBoundedCell c
IsBoundedTree (Load d a) = IsBoundedTree a
IsBoundedTree (Unary o a) = IsBoundedTree a
IsBoundedTree (Binary o a b) = IsBoundedTree a × IsBoundedTree b
IsBoundedTree _ = Unit {0}

abbrev pub IsBoundedGoal : Goal → Type 0
IsBoundedGoal (ToCell c) = IsBoundedCell c
IsBoundedGoal (ToMemory d a) = IsBoundedTree a

-- an assignment over such cells
pub record IsBoundedMove (m : Move) : Type 0 where
  pub goal : IsBoundedGoal m.to
  pub value : IsBoundedTree m.value

-- a row's transfer over such cells, which with its holes is well formed
pub record IsBoundedTransfer (ms : List Move) : Type 0 where
  pub moves : All IsBoundedMove ms
  pub formed : IsWellFormed ms

-- each address is a word, and the memory is made of words
pub record IsBounded (d : RawDescription) : Type 0 where
  pub memory : d.memory < 2 ^ d.word
  pub words : d.memory % (d.word / 8) ≡ 0
  pub rows : (i : ℕ) (row : Row) → slice_get d.rows i ≡ Some row → IsBoundedTransfer row.effects

-- what an accepted text says is such
abbrev pub SaidIsBounded : Type 0
SaidIsBounded = (text : List ℕ) (d : RawDescription) → Says text d → IsBounded d
