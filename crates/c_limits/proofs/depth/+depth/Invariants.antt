use Rattle.std.proofs.Common.{◌≡◌, ◌<◌, ◌^◌, drop, max}
use Rattle.c_limits.specs.Sums.{capped}
use Rattle.c_limits.specs.Depths.{deepest_of}
use Rattle.c_limits.proofs.depth.+depth.Given as goal

abbrev pub invariant-arguments_depth-loop-i : goal.invariant-arguments_depth-loop-i
invariant-arguments_depth-loop-i l = (l.greatest < 2 ^ 64) × (capped (max l.greatest (deepest_of l.i (drop l.i l.es))) ≡ capped (deepest_of 0 l.es))
