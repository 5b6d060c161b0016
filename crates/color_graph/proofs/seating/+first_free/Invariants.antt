use Rattle.std.proofs.Common.{length}
use Rattle.color_graph.proofs.seating.+first_free.Given as goal

abbrev pub decreases-first_free : goal.decreases-first_free
decreases-first_free l = length l.colours.now
