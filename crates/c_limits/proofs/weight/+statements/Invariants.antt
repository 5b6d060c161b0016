use Rattle.std.proofs.Common.{◌≡◌, ◌+◌, ◌<◌, ◌^◌, [], drop}
use Rattle.c_limits.specs.Sums.{capped}
use Rattle.c_limits.specs.Weights.{block_weight}
use Rattle.c_limits.proofs.weight.+statements.Given as goal

abbrev pub invariant-block_weight-loop-s : goal.invariant-block_weight-loop-s
invariant-block_weight-loop-s l = (l.sum < 2 ^ 64) × (capped (l.sum + block_weight [] l.locals (drop l.s-index l.ss)) ≡ capped (block_weight [] l.locals l.ss))
