use Rattle.std.proofs.Common.{◌≡◌, drop}
use Rattle.temp_machine.specs.Cells.{some_set}
use Rattle.flow_live.specs.Walks.{of_kind}
use Rattle.flow_live.proofs.kinds.are_set.Given as goal

abbrev pub invariant-loop-i : goal.invariant-loop-i
invariant-loop-i l = some_set (of_kind l.kind) (drop l.i l.moves) ≡ some_set (of_kind l.kind) l.moves
