use Rattle.color_graph.proofs.Apart.{AllTo}
use Rattle.color_graph.proofs.sharing.part_all.Given as goal

abbrev pub invariant-loop-at : goal.invariant-loop-at
invariant-loop-at l = AllTo l.at l.dead l.initial.rows.items l.rows.items
