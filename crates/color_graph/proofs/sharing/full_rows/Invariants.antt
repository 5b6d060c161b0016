use Rattle.std.proofs.Common.{◌≡◌, ℕ, ◌<◌, ◌≤◌, ◌-◌, ◌/◌, true, length}
use Rattle.color_graph.specs.Sharing.{may_share}
use Rattle.color_graph.proofs.sharing.full_rows.Given as goal

abbrev pub invariant-loop-alloc : goal.invariant-loop-alloc
invariant-loop-alloc l = (length l.rows.items ≤ l.count) × ((i j : ℕ) → i < length l.rows.items → j / 64 < l.words → may_share l.rows.items i j ≡ true)

abbrev pub decreases-loop-alloc : goal.decreases-loop-alloc
decreases-loop-alloc l = l.count - length l.rows.items
