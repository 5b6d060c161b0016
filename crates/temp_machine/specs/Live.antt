-- Which cells are live at a place: some path of the flow reaches a read before a set. A read for a flag counts where that flag is read.
use Rattle.std.specs.Prelude.{◌≡◌, ◌≢◌, ℕ, zero, suc, ◌==◌, ◌||◌, ◌&&◌, not, Bool, true, false, List, [], ◌∷◌, slice_get, slice_index, Option, Some, None, Contains}
use Rattle.rtl_tree.specs.declared.cells.Cell.{Cell}
use Rattle.rtl_tree.specs.declared.cells.Cell.TheVariants.{Hard, Temp, Flag, Pc, Input, Output, Halt}
use Rattle.rtl_tree.specs.Moves.{Move}
use Rattle.temp_machine.specs.Routines.{Exit, Falls, Jumps, Branches, Calls, Returns, BasicBlock, Routine, Target}
use Rattle.temp_machine.specs.Cells.{reads_beside_flags, reads_for_flag, sets, has_temporaries}
use Rattle.temp_machine.specs.Machine.{is_kept}
use Rattle.temp_machine.specs.Flow.{successors}

-- the cells that are live everywhere; memory is too
abbrev pub is_always_live : Target → Routine → Cell → Bool
is_always_live t r Pc = true
is_always_live t r Input = true
is_always_live t r Output = true
is_always_live t r Halt = true
is_always_live t r (Hard n) = n == t.sp || (t.general n && has_temporaries r)
is_always_live t r _ = false

-- a call sets each register but the stack register and those that it keeps, and it loses each flag
abbrev pub is_lost_by_call : Target → Cell → Bool
is_lost_by_call t (Hard n) = not (n == t.sp || is_kept t n)
is_lost_by_call t (Flag n) = true
is_lost_by_call t _ = false

-- what the end of a block reads and sets; a return reads the result register
abbrev pub exit_reads : Target → Exit → Cell → Bool
exit_reads t Falls c = false
exit_reads t (Jumps ms) c = reads_beside_flags c ms
exit_reads t (Branches ms) c = reads_beside_flags c ms
exit_reads t (Calls ms) c = reads_beside_flags c ms
exit_reads t Returns (Hard n) = n == t.result
exit_reads t Returns c = false

-- what it reads for a flag that is there afterwards
abbrev pub exit_reads_for : ℕ → Exit → Cell → Bool
exit_reads_for n (Jumps ms) c = reads_for_flag n c ms
exit_reads_for n (Branches ms) c = reads_for_flag n c ms
exit_reads_for n _ c = false

abbrev pub exit_sets : Target → Exit → Cell → Bool
exit_sets t Falls c = false
exit_sets t (Jumps ms) c = sets c ms
exit_sets t (Branches ms) c = sets c ms
exit_sets t (Calls ms) c = sets c ms || is_lost_by_call t c
exit_sets t Returns c = false

-- a place of a routine: a block, and in it a transfer of its body, or its end, which stands behind them
pub record Place : Type 0 where
  pub block : ℕ
  pub at : ℕ

-- what stands at a place
pub data Item : Type 0 where
  Transfer : List Move → Item
  End : Exit → Item

abbrev pub item_in : List (List Move) → Exit → ℕ → Option Item
item_in [] e zero = Some (End e)
item_in [] e (suc k) = None
item_in (ms ∷ rest) e zero = Some (Transfer ms)
item_in (ms ∷ rest) e (suc k) = item_in rest e k

abbrev pub item_of : Option BasicBlock → ℕ → Option Item
item_of (Some b) k = item_in b.body b.exit k
item_of None k = None

abbrev pub item_at : Routine → Place → Option Item
item_at r p = item_of (slice_get r.blocks p.block) p.at

abbrev pub item_reads : Target → Cell → Item → Bool
item_reads t c (Transfer ms) = reads_beside_flags c ms
item_reads t c (End e) = exit_reads t e c

abbrev pub item_reads_for : ℕ → Cell → Item → Bool
item_reads_for n c (Transfer ms) = reads_for_flag n c ms
item_reads_for n c (End e) = exit_reads_for n e c

abbrev pub item_sets : Target → Cell → Item → Bool
item_sets t c (Transfer ms) = sets c ms
item_sets t c (End e) = exit_sets t e c

-- the places that may come next
pub data IsNext (w : ℕ) (r : Routine) : Place → Place → Type 0 where
  inside : (block at : ℕ) (ms : List Move) → item_at r (record { block = block; at = at }) ≡ Some (Transfer ms)
      → IsNext w r (record { block = block; at = at }) (record { block = block; at = suc at })
  across : (block at next : ℕ) (e : Exit) → item_at r (record { block = block; at = at }) ≡ Some (End e) → Contains (successors w r block) next
      → IsNext w r (record { block = block; at = at }) (record { block = next; at = 0 })

-- some path from the place reaches a read of the cell before a set of it: for another cell than a flag, or for a flag that is read in turn
pub data IsRead (t : Target) (r : Routine) : Cell → Place → Type 0 where
  here : (c : Cell) (p : Place) (x : Item) → item_at r p ≡ Some x → item_reads t c x ≡ true → IsRead t r c p
  for_flag : (c : Cell) (n : ℕ) (p next : Place) (x : Item) → item_at r p ≡ Some x → item_reads_for n c x ≡ true → IsNext t.word r p next
      → IsRead t r (Flag n) next → IsRead t r c p
  later : (c : Cell) (p next : Place) (x : Item) → item_at r p ≡ Some x → item_sets t c x ≡ false → IsNext t.word r p next → IsRead t r c next → IsRead t r c p

-- a cell is live at a place
pub data IsLive (t : Target) (r : Routine) (c : Cell) (p : Place) : Type 0 where
  always : is_always_live t r c ≡ true → IsLive t r c p
  read : IsRead t r c p → IsLive t r c p

-- it is live after a transfer or an end, where the flow goes on from there
pub record IsLiveAfter (t : Target) (r : Routine) (c : Cell) (p : Place) : Type 0 where
  pub next : Place
  pub goes : IsNext t.word r p next
  pub live : IsLive t r c next

-- two temporaries are live at once: both live at one place, or a transfer sets one of them, and sets the other too or leaves it live
pub data AreLiveAtOnce (t : Target) (r : Routine) (i j : ℕ) : Type 0 where
  both_live : (p : Place) → IsLive t r (Temp i) p → IsLive t r (Temp j) p → AreLiveAtOnce t r i j
  both_set : (p : Place) (x : Item) → item_at r p ≡ Some x → item_sets t (Temp i) x ≡ true → item_sets t (Temp j) x ≡ true → AreLiveAtOnce t r i j
  left_set : (p : Place) (x : Item) → item_at r p ≡ Some x → item_sets t (Temp i) x ≡ true → IsLiveAfter t r (Temp j) p → AreLiveAtOnce t r i j
  right_set : (p : Place) (x : Item) → item_at r p ≡ Some x → item_sets t (Temp j) x ≡ true → IsLiveAfter t r (Temp i) p → AreLiveAtOnce t r i j

-- the rule of homes: temporaries that are live at once have different homes
abbrev pub ObeysHomes : Target → Routine → Type 0
ObeysHomes t r = (i j : ℕ) → i ≢ j → AreLiveAtOnce t r i j → slice_index r.homes i ≢ slice_index r.homes j

-- the homes that no function is given at first: a pass may take one
abbrev pub reserve_homes : ℕ
reserve_homes = 16

-- a temporary lives over a call where it is live at the begin of the block behind the call
pub record LivesOverCall (t : Target) (r : Routine) (i : ℕ) : Type 0 where
  pub block : ℕ
  pub basic_block : BasicBlock
  pub has : slice_get r.blocks block ≡ Some basic_block
  pub transfer : List Move
  pub calls : basic_block.exit ≡ Calls transfer
  pub live : IsLive t r (Temp i) (record { block = suc block; at = 0 })
