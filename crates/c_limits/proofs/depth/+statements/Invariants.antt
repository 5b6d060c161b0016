use Rattle.std.proofs.Common.{◌≡◌, ◌<◌, ◌^◌, ◌≤◌, ◌-◌, drop, max}
use Rattle.c_limits.specs.Sums.{capped}
use Rattle.c_limits.specs.Depths.{arguments_of, depth_of, in_block}
use Rattle.c_limits.proofs.depth.+statements.Given as goal

abbrev pub invariant-in_block-loop-s : goal.invariant-in_block-loop-s
invariant-in_block-loop-s l =
    (l.needs.depth < 2 ^ 64) × (capped (max l.needs.depth (in_block depth_of (drop l.s-index l.ss))) ≡ capped (in_block depth_of l.ss))
    × (max l.needs.arguments (in_block arguments_of (drop l.s-index l.ss)) ≡ in_block arguments_of l.ss)
