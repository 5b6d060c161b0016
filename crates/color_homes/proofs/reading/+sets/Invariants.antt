use Rattle.std.proofs.Common.{length}
use Rattle.color_homes.proofs.reading.+sets.Given as goal

abbrev pub decreases-sets : goal.decreases-sets
decreases-sets l = length l.moves.now
