-- Tables of what is live at each place of a routine.
use Rattle.std.specs.Prelude.{◌≡◌, ◌⊎◌, ◌↔◌, ℕ, suc, Bool, true, false, List, length, slice_get, Some, None, All, Contains}
use Rattle.std.specs.List.{list_any}
use Rattle.rtl_tree.specs.declared.cells.Cell.{Cell}
use Rattle.rtl_tree.specs.declared.cells.Cell.TheVariants.{Temp}
use Rattle.rtl_tree.specs.Moves.{Move}
use Rattle.rtl_norm.specs.Transfers.{IsMoveFitting}
use Rattle.rtl_norm_value.specs.Effect.{with_normal_jump}
use Rattle.temp_machine.specs.Routines.{Exit, Falls, Jumps, Branches, Calls, BasicBlock, Routine, Target}
use Rattle.temp_machine.specs.Live.{Place, Transfer, End, item_at, IsLive, ObeysHomes}
use Rattle.temp_machine.specs.Flow.{successors}
use Rattle.temp_machine.specs.Tidy.{IsTidy, sets_temporary}
use Rattle.temp_machine.specs.Whole.{IsWhole, IsStraight}
use Rattle.color_code.specs.Colors.{Seats, IsColoring}
use Rattle.color_holding.specs.Places.{IsOf, IsQuiet}

abbrev pub Table : Type 0
Table = Place → Cell → Bool

-- as the routine has it
abbrev pub IsExact : Target → Routine → Table → Type 0
IsExact t r live = (p : Place) (c : Cell) → (live p c ≡ true) ↔ IsLive t r c p

-- what is live at the begin of some block that follows
abbrev pub behind : ℕ → Routine → Table → ℕ → Cell → Bool
behind w r live block c = list_any (λ k. live (record { block = k; at = 0 }) c) (successors w r block)

abbrev pub IsJump : Exit → List Move → Type 0
IsJump e ms = (e ≡ Jumps ms) ⊎ (e ≡ Branches ms)

-- what a routine that is coloured owes
pub record IsColorable (t : Target) (r : Routine) (colors : List ℕ) (seats : Seats) : Type 0 where
  pub tidy : IsTidy t r
  pub coloring : IsColoring t r colors seats
  pub homes : ObeysHomes t r
  pub whole : IsWhole t.word r
  pub straight : IsStraight t r
  pub calls : (p : Place) (ms : List Move) → item_at r p ≡ Some (End (Calls ms)) → sets_temporary ms ≡ false

-- The numbers in its transfers are words, and what they assign to flags that aren't live behind them traps only where the rest does.
pub record AreCalm (t : Target) (r : Routine) (live : Table) : Type 0 where
  pub numbers : (p : Place) (ms : List Move) → item_at r p ≡ Some (Transfer ms) → All (IsMoveFitting t.word) ms
  pub quiet : (block at : ℕ) (ms : List Move) → item_at r (record { block = block; at = at }) ≡ Some (Transfer ms) → IsQuiet t.word (live (record { block = block; at = suc at })) ms
  pub jump_numbers : (p : Place) (e : Exit) (ms : List Move) → item_at r p ≡ Some (End e) → IsJump e ms → All (IsMoveFitting t.word) (with_normal_jump t.word ms)
  pub jump_quiet : (p : Place) (e : Exit) (ms : List Move) → item_at r p ≡ Some (End e) → IsJump e ms → IsQuiet t.word (behind t.word r live p.block) (with_normal_jump t.word ms)

-- What a table holds at the begin of a block, it holds at the ends that lead there; over a call temporaries are in their homes.
pub record IsCarried (t : Target) (r : Routine) (seats : Seats) (live : Table) : Type 0 where
  pub falls : (k : ℕ) (b : BasicBlock) → slice_get r.blocks k ≡ Some b → b.exit ≡ Falls → (c : Cell) → live (record { block = suc k; at = 0 }) c ≡ true
      → live (record { block = k; at = length b.body }) c ≡ true
  pub calls : (k : ℕ) (b : BasicBlock) (ms : List Move) → slice_get r.blocks k ≡ Some b → b.exit ≡ Calls ms → (j : ℕ) → live (record { block = suc k; at = 0 }) (Temp j) ≡ true
      → (live (record { block = k; at = length b.body }) (Temp j) ≡ true) × (seats j ≡ None)
  pub onward : (k next : ℕ) (c : Cell) → Contains (successors t.word r k) next → live (record { block = next; at = 0 }) c ≡ true → behind t.word r live k c ≡ true
  pub living : (p : Place) (j : ℕ) → live p (Temp j) ≡ true → IsOf r j
