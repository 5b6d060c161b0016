use Rattle.std.proofs.Common.{◌≡◌, drop}
use Rattle.std.specs.List.{list_any}
use Rattle.temp_machine.specs.Cells.{mentions}
use Rattle.flow_live.specs.Walks.{of_kind}
use Rattle.flow_live.proofs.kinds.is_in_body.Given as goal

abbrev pub invariant-loop-i : goal.invariant-loop-i
invariant-loop-i l = list_any (λ t. mentions (of_kind l.kind) t.what) (drop l.i l.body) ≡ list_any (λ t. mentions (of_kind l.kind) t.what) l.body
