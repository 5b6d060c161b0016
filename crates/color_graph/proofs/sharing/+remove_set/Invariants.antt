use Rattle.std.proofs.Common.{length}
use Rattle.color_graph.proofs.sharing.+remove_set.Given as goal

abbrev pub decreases-remove_set : goal.decreases-remove_set
decreases-remove_set l = length l.moves.now
