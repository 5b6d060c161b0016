use Rattle.std.proofs.Common.{◌≡◌, ◌<◌, ◌^◌, ◌≤◌, ◌-◌, drop, max}
use Rattle.c_limits.specs.Sums.{capped}
use Rattle.c_limits.specs.Depths.{arguments_of, depth_of, in_locals}
use Rattle.c_limits.proofs.depth.in_locals.Given as goal

abbrev pub invariant-loop-l : goal.invariant-loop-l
invariant-loop-l l =
    (l.needs.depth < 2 ^ 64) × (capped (max l.needs.depth (in_locals depth_of (drop l.l-index l.declared))) ≡ capped (in_locals depth_of l.declared))
    × (max l.needs.arguments (in_locals arguments_of (drop l.l-index l.declared)) ≡ in_locals arguments_of l.declared)
