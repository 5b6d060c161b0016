use Rattle.std.proofs.Common.{length}
use Rattle.color_homes.proofs.reading.+reads.Given as goal

abbrev pub decreases-reads : goal.decreases-reads
decreases-reads l = length l.moves.now
