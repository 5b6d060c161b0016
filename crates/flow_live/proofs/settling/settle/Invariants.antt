use Rattle.std.specs.Prelude.{◌≡◌, ◌<◌, ◌+◌, ℕ, false, cond, length}
use Rattle.temp_machine.specs.Routines.{Target}
use Rattle.temp_code.specs.Routines.{routine_of}
use Rattle.flow_blocks.specs.Flows.{IsFlow}
use Rattle.flow_live.specs.Walks.{HasLowFlags, Stands}
use Rattle.flow_live.specs.Settled.{FitsCode, IsSettling, is_waiting, total}
use Rattle.flow_live.proofs.settling.settle.Given as goal

abbrev pub invariant-loop-going : goal.invariant-loop-going
invariant-loop-going l =
    FitsCode l.code l.state
    × (l.going ≡ false → (j : ℕ) → j < length l.code.blocks → is_waiting l.state.waiting.items j ≡ false)
    × ((t : Target) → Stands t (routine_of l.code) l.standing → HasLowFlags (routine_of l.code) → IsFlow t.word (routine_of l.code) l.flow
    → IsSettling t (routine_of l.code) l.words l.state)

abbrev pub decreases-loop-going : goal.decreases-loop-going
decreases-loop-going l = total l.state.begins.items + cond l.going 1 0
