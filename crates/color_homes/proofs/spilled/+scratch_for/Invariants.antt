use Rattle.std.proofs.Common.{length}
use Rattle.color_homes.proofs.spilled.+scratch_for.Given as goal

abbrev pub decreases-scratch_for : goal.decreases-scratch_for
decreases-scratch_for l = length l.spilled.now
