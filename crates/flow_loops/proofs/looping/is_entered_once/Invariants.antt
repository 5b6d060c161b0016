use Rattle.std.specs.Prelude.{◌≡◌, ◌≤◌, ◌-◌, suc}
use Rattle.std.specs.List.{list_all}
use Rattle.flow_blocks.specs.Flows.{previous_at}
use Rattle.flow_loops.specs.Looping.{holds_along, is_near}
use Rattle.flow_loops.proofs.looping.is_entered_once.Given as goal

abbrev pub invariant-loop-k : goal.invariant-loop-k
invariant-loop-k l =
    (l.k ≤ suc l.last)
    × (holds_along (λ k. list_all (is_near l.first l.last) (previous_at l.f k)) l.k (suc l.last - l.k)
    ≡ holds_along (λ k. list_all (is_near l.first l.last) (previous_at l.f k)) l.first (suc l.last - l.first))

abbrev pub decreases-loop-k : goal.decreases-loop-k
decreases-loop-k l = suc l.last - l.k
