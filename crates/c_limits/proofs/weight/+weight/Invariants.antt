use Rattle.std.proofs.Common.{◌≡◌, ◌+◌, ◌<◌, ◌^◌, drop}
use Rattle.c_limits.specs.Sums.{capped}
use Rattle.c_limits.specs.Weights.{each_of}
use Rattle.c_limits.proofs.weight.+weight.Given as goal

abbrev pub invariant-each-loop-e : goal.invariant-each-loop-e
invariant-each-loop-e l = (l.sum < 2 ^ 64) × (capped (l.sum + each_of l.n (drop l.e-index l.es)) ≡ capped (each_of l.n l.es))
