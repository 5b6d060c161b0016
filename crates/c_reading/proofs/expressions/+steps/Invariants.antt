use Rattle.std.proofs.Common.{◌*◌, ◌+◌}
use Rattle.c_reading.proofs.expressions.+steps.Given as goal

abbrev pub decreases-more_steps : goal.decreases-more_steps
decreases-more_steps l = 2 * l.depth

abbrev pub decreases-stepped_behind : goal.decreases-stepped_behind
decreases-stepped_behind l = 2 * l.depth + 1
