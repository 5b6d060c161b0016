use Rattle.std.proofs.Common.{◌<◌, length, ◌∙◌, arith}
use Rattle.flow_blocks.specs.Making.{listed}
use Rattle.flow_blocks.proofs.Previous.{previous_more}
use Rattle.flow_blocks.proofs.predecessors.previous_blocks.Goals as goal

pub loop-at-preserved : goal.loop-at-preserved
loop-at-preserved c = (
  c.in_ok-note.ensures.count ∙ c.loop-at.invariant.0,
  previous_more c.args.next.now (length c.args.next.now) c.loop-at.at (length c.loop-at.lists.items) _ (listed c.loop-at.lists.items) (listed c.note.new.lists.items)
      (let l = c.loop-at-test.true in omega (arith, l)) c.loop-at.invariant.0 c.in_ok-note.ensures.lists c.loop-at.invariant.1,
)
