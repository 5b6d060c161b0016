use Rattle.temp_shapes.proofs.Binding.{values_next}
use Rattle.link_rows.proofs.added.values.Goals as goal

pub loop-slot-preserved : goal.loop-slot-preserved
loop-slot-preserved c =
    values_next c.args.slots.now c.loop-slot.slot-index _ c.loop-slot.list.items c.in_ok-list.list.items c.loop-slot-test.true c.loop-slot.invariant c.in_ok-list.ensures
