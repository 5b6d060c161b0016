use Rattle.std.proofs.Common.{length, ap, arith, length-append}
use Rattle.md_rows.specs.declared.instance.Bound.{Bound}
use Rattle.asm_instances.specs.Known.{IsKnown}
use Rattle.asm_instances.proofs.Items.{item_of, values_more, numbers_more}
use Rattle.asm_instances.proofs.binding.bind.Goals as goal

pub bound_of-bound-requires : goal.bound_of-bound-requires
bound_of-bound-requires c = record { known = item_of (IsKnown c.args.names.now) c.args.values.now c.loop-value.value-index _ c.loop-value-test.true c.requires.known }

pub loop-value-preserved : goal.loop-value-preserved
loop-value-preserved c =
    record {
      values = values_more c.args.values.now c.loop-value.value-index _ c.loop-value-test.true c.args.names.now c.loop-value.list.items c.push.new.self.items c.bound_of-bound.result
          c.loop-value.invariant.values c.bound_of-bound.ensures.value c.in_ok-push.ensures.ok;
      numbers = numbers_more c.loop-value.list.items c.push.new.self.items c.bound_of-bound.result c.loop-value.invariant.numbers c.bound_of-bound.ensures.number c.in_ok-push.ensures.ok;
      count = omega (arith, ap length c.in_ok-push.ensures.ok, length-append {A = Bound}, c.loop-value.invariant.count);
    }
