use Rattle.std.proofs.Common.{◌≡◌, length}
use Rattle.flow_blocks.specs.Making.{ArePreviousTo, listed}
use Rattle.flow_blocks.proofs.predecessors.previous_blocks.Given as goal

abbrev pub invariant-loop-at : goal.invariant-loop-at
invariant-loop-at l = (length l.lists.items ≡ length l.next) × ArePreviousTo l.at (length l.next) l.next (listed l.lists.items)
