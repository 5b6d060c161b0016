use Rattle.naive_run.specs.Law.{element_count}
use Rattle.naive_data.proofs.Pushing.{element_more}
use Rattle.naive_data.proofs.values.push_elements.Goals as goal

pub loop-i-preserved : goal.loop-i-preserved
loop-i-preserved g c =
    element_more g.W.Word.BITS c.args.s.now c.loop-i.i (element_count c.args.s.now.object) c.element_count-i-end.result _ _ _ _ _ c.loop-i-test.true c.element_count-i-end.ensures
    c.cell_bytes-size.ensures.bytes c.value_at.ensures c.in_ok-push_low.ensures c.loop-i.invariant
