use Rattle.std.specs.Prelude.{◌≤◌, ◌-◌, length}
use Rattle.flow_live.specs.Settled.{AreFull, HaveWords}
use Rattle.flow_live.proofs.settling.full_rows.Given as goal

abbrev pub invariant-loop-alloc : goal.invariant-loop-alloc
invariant-loop-alloc l = (length l.rows.items ≤ l.count) × HaveWords l.words l.rows.items × AreFull l.words l.rows.items

abbrev pub decreases-loop-alloc : goal.decreases-loop-alloc
decreases-loop-alloc l = l.count - length l.rows.items
