use Rattle.color_graph.proofs.Falling.{BodyTo}
use Rattle.color_graph.proofs.walking.part_body.Given as goal

abbrev pub invariant-loop-at : goal.invariant-loop-at
invariant-loop-at l = BodyTo l.at l.block l.body l.live l.initial.rows.items l.rows.items
