-- The table of a code: its rows, block by block, and what they tell.
use Rattle.std.specs.Prelude.{◌≡◌, ℕ, ◌+◌, ◌-◌, ◌<◌, ◌≤◌, nat_le, if◌then◌else◌, List, [], length, slice_get, Option, Some, None}
use Rattle.std.specs.Global.{Vec}
use Rattle.rtl_tree.specs.Sets.{CellBits}
use Rattle.temp_machine.specs.Routines.{BasicBlock, Routine, Target}
use Rattle.temp_machine.specs.Live.{Item, item_at, IsLive, IsLiveAfter}
use Rattle.flow_live.specs.declared.rows.Row.{Row}
use Rattle.flow_live.specs.declared.tables.Live.{Live}
use Rattle.flow_live.specs.Dead.{HoldsDead, is_told}
use Rattle.flow_live.specs.Rows.{bits_in, is_held}

abbrev pub set_by : Option Row → CellBits
set_by (Some row) = bits_in row
set_by None = record { hard = 0; flags = 0; temps = [] }

abbrev pub rows_by : Option (Vec Row) → List Row
rows_by (Some rows) = rows.items
rows_by None = []

-- the rows of a block: behind its end first, and at its begin last
abbrev pub rows_at : Live → ℕ → List Row
rows_at l k = rows_by (slice_get l.blocks.items k)

-- so many rows before the last
abbrev pub row_back : List Row → ℕ → Option Row
row_back rows n = if nat_le (n + 1) (length rows) then slice_get rows (length rows - (n + 1)) else None

-- the set of the cells that are dead at the begin of a block
abbrev pub set_at : Live → ℕ → CellBits
set_at l k = set_by (row_back (rows_at l k) 0)

-- and behind the transfer or the end at a place
abbrev pub set_after : Live → ℕ → ℕ → CellBits
set_after l k at = set_by (row_back (rows_at l k) (at + 1))

-- The sets of a table hold just the cells that are dead.
pub record IsLiveness (t : Target) (r : Routine) (l : Live) : Type 0 where
  pub at : (k : ℕ) → k < length r.blocks → HoldsDead (is_told (length r.homes)) (set_at l k) (λ c. IsLive t r c (record { block = k; at = 0 }))
  pub after : (k at : ℕ) (x : Item) → item_at r (record { block = k; at = at }) ≡ Some x
      → HoldsDead (is_told (length r.homes)) (set_after l k at) (λ c. IsLiveAfter t r c (record { block = k; at = at }))

-- rows from behind the end of a block to before the place `at` in it
pub record AreRowsFrom (t : Target) (r : Routine) (words k at : ℕ) (b : BasicBlock) (rows : List Row) : Type 0 where
  pub count : length rows + at ≡ length b.body + 1
  pub each : (p : ℕ) (row : Row) → at ≤ p → p ≤ length b.body → slice_get rows (length b.body - p) ≡ Some row
      → HoldsDead (is_held words) (bits_in row) (λ c. IsLiveAfter t r c (record { block = k; at = p }))

-- all rows of a block
pub record AreBlockRows (t : Target) (r : Routine) (words k : ℕ) (b : BasicBlock) (rows : List Row) : Type 0 where
  pub at : HoldsDead (is_held words) (set_by (row_back rows 0)) (λ c. IsLive t r c (record { block = k; at = 0 }))
  pub after : (p : ℕ) → p ≤ length b.body → HoldsDead (is_held words) (set_by (row_back rows (p + 1))) (λ c. IsLiveAfter t r c (record { block = k; at = p }))

-- the rows of the blocks before position n
abbrev pub AreTables : ℕ → Target → Routine → ℕ → List (Vec Row) → Type 0
AreTables n t r words tables = (k : ℕ) (b : BasicBlock) → k < n → slice_get r.blocks k ≡ Some b → AreBlockRows t r words k b (rows_by (slice_get tables k))
