use Rattle.std.proofs.Common.{length}
use Rattle.color_homes.proofs.spilled.+spilled_values.Given as goal

abbrev pub decreases-spilled_values : goal.decreases-spilled_values
decreases-spilled_values l = length l.values.now
