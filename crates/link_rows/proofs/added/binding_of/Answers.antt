use Rattle.temp_shapes.proofs.Binding.{binding_short}
use Rattle.link_rows.proofs.added.binding_of.Goals as goal

pub invariant_of-result : goal.invariant_of-result
invariant_of-result c = binding_short c.in_ok-list.list.items c.args.count c.args.slots.now c.in_ok-list.ensures c.requires
