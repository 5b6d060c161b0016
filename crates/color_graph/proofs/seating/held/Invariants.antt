use Rattle.color_graph.proofs.Greedily.{HeldTo}
use Rattle.color_graph.proofs.seating.held.Given as goal

abbrev pub invariant-loop-j : goal.invariant-loop-j
invariant-loop-j l = HeldTo l.j l.graph l.seats l.marks
