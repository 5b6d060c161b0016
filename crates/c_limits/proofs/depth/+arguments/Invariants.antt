use Rattle.std.proofs.Common.{◌≡◌, drop, length, max}
use Rattle.c_limits.specs.Depths.{most_of}
use Rattle.c_limits.proofs.depth.+arguments.Given as goal

abbrev pub invariant-most_in-loop-e : goal.invariant-most_in-loop-e
invariant-most_in-loop-e l = max l.most (most_of (drop l.e-index l.es)) ≡ max (length l.es) (most_of l.es)
