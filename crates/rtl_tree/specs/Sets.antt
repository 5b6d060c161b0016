-- Sets of hard registers, flags and temporaries.
use Rattle.std.specs.Prelude.{ℕ, ◌/◌, ◌%◌, ◌==◌, Bool, false, List, slice_index}
use Rattle.std.specs.Int.{bit_at}
use Rattle.rtl_tree.specs.declared.cells.Cell.{Cell}
use Rattle.rtl_tree.specs.declared.cells.Cell.TheVariants.{Hard, Temp, Flag}
use Rattle.rtl_tree.specs.declared.cell_sets.CellSet.{CellSet}

-- one bit for each hard register, each flag and each temporary, 64 temporaries to a number
pub record CellBits : Type 0 where
  pub hard : ℕ
  pub flags : ℕ
  pub temps : List ℕ

abbrev pub bits_of : CellSet → CellBits
bits_of s = record { hard = s.hard; flags = s.flags; temps = s.temps.now }

-- whether a cell is in the set
abbrev pub has_cell : CellBits → Cell → Bool
has_cell s (Hard n) = bit_at s.hard n == 1
has_cell s (Flag n) = bit_at s.flags n == 1
has_cell s (Temp n) = bit_at (slice_index s.temps (n / 64)) (n % 64) == 1
has_cell s _ = false
