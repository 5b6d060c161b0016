use Rattle.flow_live.proofs.Sweeping.{Sweeps}
use Rattle.flow_live.proofs.settling.Settling.sweep.Given as goal

abbrev pub invariant-loop-at : goal.invariant-loop-at
invariant-loop-at l = Sweeps l.code l.flow l.standing l.at l.fn.self l.self l.fell

abbrev pub decreases-loop-at : goal.decreases-loop-at
decreases-loop-at l = l.at
