use Rattle.std.proofs.Common.{◌≡◌, ◌+◌, ◌<◌, ◌^◌, drop}
use Rattle.c_limits.specs.Sums.{capped}
use Rattle.c_limits.specs.Weights.{locals_weight}
use Rattle.c_limits.proofs.weight.locals_weight.Given as goal

abbrev pub invariant-loop-l : goal.invariant-loop-l
invariant-loop-l l = (l.sum < 2 ^ 64) × (capped (l.sum + locals_weight l.locals (drop l.l-index l.declared)) ≡ capped (locals_weight l.locals l.declared))
