use Rattle.std.specs.Prelude.{◌≡◌, length}
use Rattle.temp_machine.specs.Routines.{Target}
use Rattle.temp_code.specs.Routines.{routine_of}
use Rattle.flow_blocks.specs.Flows.{IsFlow}
use Rattle.flow_live.specs.Walks.{HasLowFlags, Stands}
use Rattle.flow_live.specs.Settled.{AreBegins}
use Rattle.flow_live.specs.Tables.{AreTables}
use Rattle.flow_live.proofs.making.all_rows.Given as goal

abbrev pub invariant-loop-at : goal.invariant-loop-at
invariant-loop-at l =
    (length l.table.items ≡ l.at)
    × ((t : Target) → Stands t (routine_of l.code) l.standing → HasLowFlags (routine_of l.code) → IsFlow t.word (routine_of l.code) l.flow
    → length l.begins ≡ length l.code.blocks → AreBegins t (routine_of l.code) l.words l.begins → AreTables l.at t (routine_of l.code) l.words l.table.items)
