use Rattle.std.proofs.Common.{length}
use Rattle.color_homes.proofs.spilled.+contains.Given as goal

abbrev pub decreases-contains : goal.decreases-contains
decreases-contains l = length l.list.now
