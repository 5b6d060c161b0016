-- Laws of tables of what is live.
use Rattle.std.specs.Prelude.{◌≡◌, ℕ, List, length, slice_get, Some}
use Rattle.rtl_tree.specs.Moves.{Move}
use Rattle.rtl_norm_value.specs.Effect.{with_normal_jump}
use Rattle.temp_machine.specs.Routines.{BasicBlock, Routine, Target}
use Rattle.color_code.specs.Colors.{Seats}
use Rattle.color_holding.specs.Places.{IsPlace, ArePlaces}
use Rattle.color_table.specs.Tables.{Table, IsExact, behind, IsJump, IsColorable, AreCalm, IsCarried}

-- by an exact table each transfer of a body may be coloured
abbrev pub BodiesArePlaces : Type 0
BodiesArePlaces =
    (t : Target) (r : Routine) (colors : List ℕ) (seats : Seats) (live : Table) (k : ℕ) (b : BasicBlock) → IsColorable t r colors seats → IsExact t r live → AreCalm t r live
    → slice_get r.blocks k ≡ Some b
    → ArePlaces t r seats b.body (live (record { block = k; at = 0 })) (live (record { block = k; at = length b.body }))

-- and so may each jump or branch
abbrev pub JumpsArePlaces : Type 0
JumpsArePlaces =
    (t : Target) (r : Routine) (colors : List ℕ) (seats : Seats) (live : Table) (k : ℕ) (b : BasicBlock) (ms : List Move) → IsColorable t r colors seats → IsExact t r live → AreCalm t r live
    → slice_get r.blocks k ≡ Some b → IsJump b.exit ms
    → IsPlace t r seats ms (with_normal_jump t.word ms) (live (record { block = k; at = length b.body })) (behind t.word r live k)

-- an exact table is carried from block to block
abbrev pub ExactIsCarried : Type 0
ExactIsCarried = (t : Target) (r : Routine) (colors : List ℕ) (seats : Seats) (live : Table) → IsColorable t r colors seats → IsExact t r live → IsCarried t r seats live
