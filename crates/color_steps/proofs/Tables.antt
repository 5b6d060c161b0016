-- What is asked of the blocks of a routine, by a table of what is live at each place.
use Rattle.std.specs.Prelude.{◌≡◌, ℕ, ◌<◌, suc, Bool, true, List, [], length, slice_get, Some, None, Contains}
use Rattle.rtl_tree.specs.declared.cells.Cell.{Cell}
use Rattle.rtl_tree.specs.declared.cells.Cell.TheVariants.{Temp}
use Rattle.rtl_tree.specs.Moves.{Move}
use Rattle.rtl_norm_value.specs.Effect.{with_normal_jump}
use Rattle.temp_machine.specs.Routines.{Exit, Falls, Jumps, Branches, Calls, Returns, BasicBlock, Routine, Image, Target}
use Rattle.temp_machine.specs.Units.{IsTarget, IsImage}
use Rattle.color_transfer.specs.Code.{IsColoredImage}
use Rattle.temp_machine.specs.Live.{Place}
use Rattle.temp_machine.specs.Flow.{successors}
use Rattle.color_code.specs.Colors.{Seats}
use Rattle.color_holding.specs.Places.{AreGeneral, IsOf, IsPlace, ArePlaces}

module _ (t : Target) (r : Routine) (seats : Seats) (live : Place → Cell → Bool) where
  -- what is live before a transfer of a block
  abbrev pub live_at : ℕ → ℕ → Cell → Bool
  live_at block at = live (record { block = block; at = at })

  -- a block ends with this transfer, which jumps; what is live behind it is live where a block follows
  pub record IsJumpPlace (k : ℕ) (b : BasicBlock) (ms : List Move) : Type 0 where
    pub later : Cell → Bool
    pub place : IsPlace t r seats ms (with_normal_jump t.word ms) (live_at k (length b.body)) later
    pub onward : (next : ℕ) (c : Cell) → Contains (successors t.word r k) next → live_at next 0 c ≡ true → later c ≡ true

  -- what is live at the begin of the next block is live at the end before it; over a call temporaries are in their homes
  abbrev pub IsEndPlace : ℕ → BasicBlock → Exit → Type 0
  IsEndPlace k b Falls = (c : Cell) → live_at (suc k) 0 c ≡ true → live_at k (length b.body) c ≡ true
  IsEndPlace k b (Jumps ms) = IsJumpPlace k b ms
  IsEndPlace k b (Branches ms) = IsJumpPlace k b ms
  IsEndPlace k b (Calls ms) = (j : ℕ) → live_at (suc k) 0 (Temp j) ≡ true → (live_at k (length b.body) (Temp j) ≡ true) × (seats j ≡ None)
  IsEndPlace k b Returns = Unit {0}

  -- a table holds at least what is live, and the colouring keeps apart what it holds
  pub record IsTabled : Type 0 where
    pub general : AreGeneral t seats
    pub bodies : (k : ℕ) (b : BasicBlock) → slice_get r.blocks k ≡ Some b → ArePlaces t r seats b.body (live_at k 0) (live_at k (length b.body))
    pub ends : (k : ℕ) (b : BasicBlock) → slice_get r.blocks k ≡ Some b → IsEndPlace k b b.exit
    pub living : (k j : ℕ) → live_at k 0 (Temp j) ≡ true → IsOf r j

-- an image and its coloured form, with such a table for each routine
pub record IsTabledImage (t : Target) (old new : Image) (seats : ℕ → Seats) (live : ℕ → Place → Cell → Bool) : Type 0 where
  pub none_kept : t.kept ≡ []
  pub target : IsTarget t
  pub image : IsImage t old
  pub colored : IsColoredImage t seats old new
  pub tabled : (f : ℕ) → 0 < length (old.routines f).blocks → IsTabled t (old.routines f) (seats f) (live f)
