use Rattle.color_graph.proofs.Falling.{CallsTo}
use Rattle.color_graph.proofs.walking.keep_behind_calls.Given as goal

abbrev pub invariant-loop-at : goal.invariant-loop-at
invariant-loop-at l = CallsTo l.at l.blocks l.live l.initial.words l.words
