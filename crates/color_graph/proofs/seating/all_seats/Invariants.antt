use Rattle.std.proofs.Common.{◌-◌, length}
use Rattle.color_graph.proofs.Greedily.{SeatsTo}
use Rattle.color_graph.proofs.seating.all_seats.Given as goal

abbrev pub invariant-loop-seats : goal.invariant-loop-seats
invariant-loop-seats l = SeatsTo l.graph l.colours l.seats.items

abbrev pub decreases-loop-seats : goal.decreases-loop-seats
decreases-loop-seats l = l.count - length l.seats.items
