-- Rows of the begins of blocks, on the way to liveness.
use Rattle.std.specs.Prelude.{◌≡◌, ◌≢◌, ℕ, ◌+◌, ◌<◌, ◌&&◌, Bool, true, false, List, [], ◌∷◌, length, slice_get, slice_index_or, Some}
use Rattle.rtl_tree.specs.declared.cells.Cell.{Cell}
use Rattle.temp_machine.specs.Routines.{BasicBlock, Routine, Target}
use Rattle.temp_machine.specs.Flow.{successors}
use Rattle.temp_machine.specs.Live.{IsLive}
use Rattle.temp_code.specs.declared.code.Code.{Code}
use Rattle.flow_live.specs.declared.rows.Row.{Row}
use Rattle.flow_live.specs.declared.settling.Settling.{Settling}
use Rattle.flow_live.specs.Dead.{HoldsDead}
use Rattle.flow_live.specs.Rows.{bits_in, is_held, weight}
use Rattle.flow_live.specs.Walks.{dead_at, dead_behind, block_dead}

-- all rows have so many words of temporaries
abbrev pub HaveWords : ℕ → List Row → Type 0
HaveWords words rows = (k : ℕ) (row : Row) → slice_get rows k ≡ Some row → length row.temporaries.items ≡ words

-- and all cells
abbrev pub AreFull : ℕ → List Row → Type 0
AreFull words rows = (k : ℕ) (c : Cell) → is_held words c ≡ true → dead_at rows k c ≡ true

-- what is not in them is live
abbrev pub AreSound : Target → Routine → ℕ → List Row → Type 0
AreSound t r words rows = (k : ℕ) (c : Cell) → is_held words c ≡ true → dead_at rows k c ≡ false → IsLive t r c (record { block = k; at = 0 })

-- what is in the row of a block is dead by what its successors' rows say
abbrev pub IsClosedAt : Target → Routine → ℕ → List Row → ℕ → Type 0
IsClosedAt t r words rows k =
    (b : BasicBlock) (c : Cell) → slice_get r.blocks k ≡ Some b → is_held words c ≡ true → dead_at rows k c ≡ true
    → block_dead t r b (dead_behind t r rows (successors t.word r k)) c ≡ true

-- marks of blocks that are still to be looked at
abbrev pub is_waiting : List Bool → ℕ → Bool
is_waiting marks k = slice_index_or marks k false

abbrev pub AreClosed : Target → Routine → ℕ → List Row → List Bool → Type 0
AreClosed t r words rows marks = (k : ℕ) → k < length r.blocks → is_waiting marks k ≡ false → IsClosedAt t r words rows k

abbrev pub total : List Row → ℕ
total [] = 0
total (row ∷ rows) = weight (bits_in row) + total rows

-- a look at a block takes out of its row what isn't dead by what its successors' rows say
pub record LooksAt (t : Target) (r : Routine) (words at : ℕ) (old new : List Row) : Type 0 where
  pub others : (k : ℕ) → k ≢ at → slice_get new k ≡ slice_get old k
  pub sized : HaveWords words new
  pub here : (b : BasicBlock) (c : Cell) → slice_get r.blocks at ≡ Some b → is_held words c ≡ true
      → dead_at new at c ≡ (dead_at old at c && block_dead t r b (dead_behind t r old (successors t.word r at)) c)

-- a row and a mark for each block
pub record FitsCode (c : Code) (s : Settling) : Type 0 where
  pub begins : length s.begins.items ≡ length c.blocks
  pub waiting : length s.waiting.items ≡ length c.blocks

-- rows on the way
pub record IsSettling (t : Target) (r : Routine) (words : ℕ) (s : Settling) : Type 0 where
  pub sized : HaveWords words s.begins.items
  pub row : length s.row.temporaries.items ≡ words
  pub sound : AreSound t r words s.begins.items
  pub closed : AreClosed t r words s.begins.items s.waiting.items

-- each row has exactly what is dead at the begin of its block
abbrev pub AreBegins : Target → Routine → ℕ → List Row → Type 0
AreBegins t r words rows = (k : ℕ) (row : Row) → k < length r.blocks → slice_get rows k ≡ Some row
    → HoldsDead (is_held words) (bits_in row) (λ c. IsLive t r c (record { block = k; at = 0 }))
