-- Rows of bits, one for each cell.
use Rattle.std.specs.Prelude.{◌≡◌, ℕ, ◌+◌, ◌/◌, ◌%◌, ◌==◌, not, nat_lt, Bool, true, false, List, [], ◌∷◌, length, slice_index}
use Rattle.std.specs.Int.{bit_at}
use Rattle.rtl_tree.specs.declared.cells.Cell.{Cell}
use Rattle.rtl_tree.specs.declared.cells.Cell.TheVariants.{Hard, Temp, Flag}
use Rattle.rtl_tree.specs.Sets.{CellBits, has_cell}
use Rattle.flow_live.specs.declared.rows.Row.{Row}

abbrev pub bits_in : Row → CellBits
bits_in r = record { hard = r.registers; flags = r.flags; temps = r.temporaries.items }

abbrev pub has_bit : ℕ → ℕ → Bool
has_bit word n = bit_at word n == 1

abbrev pub has_temporary : List ℕ → ℕ → Bool
has_temporary words n = has_bit (slice_index words (n / 64)) (n % 64)

-- the cells that have a bit in rows with so many words of temporaries
abbrev pub is_held : ℕ → Cell → Bool
is_held words (Hard n) = nat_lt n 64
is_held words (Flag n) = nat_lt n 8
is_held words (Temp n) = nat_lt (n / 64) words
is_held words _ = false

-- a row of the same size, whose cells are those of d
pub record Becomes (d : Cell → Bool) (old new : CellBits) : Type 0 where
  pub words : length new.temps ≡ length old.temps
  pub cells : (c : Cell) → is_held (length old.temps) c ≡ true → has_cell new c ≡ d c

-- a number that falls where bits fall out
abbrev pub added : List ℕ → ℕ
added [] = 0
added (x ∷ xs) = x + added xs

abbrev pub weight : CellBits → ℕ
weight s = s.hard + s.flags + added s.temps

-- the registers of a mask
abbrev pub is_masked : ℕ → Cell → Bool
is_masked mask (Hard n) = has_bit mask n
is_masked mask _ = false

-- the flags, and the registers that a mask doesn't spare
abbrev pub is_lost : ℕ → Cell → Bool
is_lost spared (Hard n) = not (has_bit spared n)
is_lost spared (Flag n) = true
is_lost spared _ = false
