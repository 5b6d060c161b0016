-- Where temporaries conflict, block by block.
use Rattle.std.specs.Prelude.{◌≡◌, ◌⊎◌, ℕ, suc, ◌<◌, Bool, true, false, List, length, slice_get, Some}
use Rattle.rtl_tree.specs.declared.cells.Cell.TheVariants.{Temp}
use Rattle.rtl_tree.specs.Moves.{Move}
use Rattle.rtl_tree.specs.Same.{same_cell}
use Rattle.temp_machine.specs.Routines.{BasicBlock, Calls, Routine, Target}
use Rattle.temp_machine.specs.Cells.{uses}
use Rattle.temp_code.specs.declared.code.End.{End}
use Rattle.temp_code.specs.declared.code.End.TheVariants.{Call}
use Rattle.temp_machine.specs.Live.{Place, Item, item_at, item_sets, IsLive, IsLiveAfter}

abbrev pub place : ℕ → ℕ → Place
place k at = record { block = k; at = at }

-- what stands at a place sets the first of two temporaries, and sets the other too or leaves it live
pub record MeetsAt (t : Target) (r : Routine) (p : Place) (i j : ℕ) : Type 0 where
  pub item : Item
  pub stands : item_at r p ≡ Some item
  pub set : item_sets t (Temp i) item ≡ true
  pub other : (item_sets t (Temp j) item ≡ true) ⊎ IsLiveAfter t r (Temp j) p

-- both are live at the begin of the block, or one of its places is such
pub data MeetsIn (t : Target) (r : Routine) (k i j : ℕ) : Type 0 where
  at_begin : IsLive t r (Temp i) (place k 0) → IsLive t r (Temp j) (place k 0) → MeetsIn t r k i j
  at_place : (at : ℕ) → MeetsAt t r (place k at) i j → MeetsIn t r k i j

-- in one of the first n places of a block, and in one of the first n blocks
abbrev pub MeetsBefore : ℕ → Target → Routine → ℕ → ℕ → ℕ → Type 0
MeetsBefore n t r k i j = (at : ℕ) × (at < n) × MeetsAt t r (place k at) i j

abbrev pub MeetsWithin : ℕ → Target → Routine → ℕ → ℕ → Type 0
MeetsWithin n t r i j = (k : ℕ) × (k < n) × MeetsIn t r k i j

-- a block ends with a call, and the temporary is live at the begin of the block behind it
pub record IsLiveBehindCall (t : Target) (r : Routine) (k i : ℕ) : Type 0 where
  pub basic_block : BasicBlock
  pub has : slice_get r.blocks k ≡ Some basic_block
  pub transfer : List Move
  pub calls : basic_block.exit ≡ Calls transfer
  pub next : suc k < length r.blocks
  pub live : IsLive t r (Temp i) (place (suc k) 0)

abbrev pub IsLiveBehindCalls : ℕ → Target → Routine → ℕ → Type 0
IsLiveBehindCalls n t r i = (k : ℕ) × (k < n) × IsLiveBehindCall t r k i

-- each temporary that stands in a routine has a home
abbrev pub HaveHomes : Routine → Type 0
HaveHomes r = (n : ℕ) → uses (same_cell (Temp n)) r ≡ true → n < length r.homes

abbrev pub is_call : End → Bool
is_call (Call t) = true
is_call _ = false
