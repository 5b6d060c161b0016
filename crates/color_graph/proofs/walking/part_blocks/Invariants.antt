use Rattle.color_graph.proofs.Falling.{BlocksTo}
use Rattle.color_graph.proofs.walking.part_blocks.Given as goal

abbrev pub invariant-loop-at : goal.invariant-loop-at
invariant-loop-at l = BlocksTo l.at l.blocks l.live l.initial.rows.items l.rows.items
