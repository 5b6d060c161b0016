use Rattle.flow_live.specs.Rows.{bits_in}
use Rattle.flow_live.proofs.Blockwise.{FillsTo}
use Rattle.flow_live.proofs.making.block_rows.Given as goal

abbrev pub invariant-loop-at : goal.invariant-loop-at
invariant-loop-at l = FillsTo l.standing l.block (bits_in l.fn.row) l.at l.rows.items (bits_in l.row)

abbrev pub decreases-loop-at : goal.decreases-loop-at
decreases-loop-at l = l.at
