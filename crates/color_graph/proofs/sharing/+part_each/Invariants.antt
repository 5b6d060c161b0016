use Rattle.std.proofs.Common.{length}
use Rattle.color_graph.proofs.sharing.+part_each.Given as goal

abbrev pub decreases-part_each : goal.decreases-part_each
decreases-part_each l = length l.of.now
