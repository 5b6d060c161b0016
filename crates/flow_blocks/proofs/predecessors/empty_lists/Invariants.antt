use Rattle.std.proofs.Common.{◌≡◌, ℕ, ◌≤◌, ◌-◌, [], length}
use Rattle.flow_blocks.specs.Making.{listed}
use Rattle.flow_blocks.proofs.predecessors.empty_lists.Given as goal

abbrev pub invariant-loop-alloc : goal.invariant-loop-alloc
invariant-loop-alloc l = (length l.lists.items ≤ l.count) × ((k : ℕ) → listed l.lists.items k ≡ [])

abbrev pub decreases-loop-alloc : goal.decreases-loop-alloc
decreases-loop-alloc l = l.count - length l.lists.items
