use Rattle.std.proofs.Common.{◌≡◌, ◌<◌, ◌^◌, ◌≤◌, ◌-◌, drop, max}
use Rattle.c_limits.specs.Sums.{capped}
use Rattle.c_limits.specs.Depths.{arguments_of, depth_of, in_list}
use Rattle.c_limits.proofs.depth.in_list.Given as goal

abbrev pub invariant-loop-e : goal.invariant-loop-e
invariant-loop-e l =
    (l.needs.depth < 2 ^ 64) × (capped (max l.needs.depth (in_list depth_of (drop l.e-index l.es))) ≡ capped (in_list depth_of l.es))
    × (max l.needs.arguments (in_list arguments_of (drop l.e-index l.es)) ≡ in_list arguments_of l.es)
