use Rattle.color_graph.proofs.Bitwise.{KeepsTo}
use Rattle.color_graph.proofs.words.keep.Given as goal

abbrev pub invariant-loop-i : goal.invariant-loop-i
invariant-loop-i l = KeepsTo l.i l.initial.words l.other l.words
