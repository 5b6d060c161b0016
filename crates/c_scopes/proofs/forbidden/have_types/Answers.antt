use Rattle.std.proofs.Common.{◌+◌, ap, ◌∙◌}
use Rattle.c_typing.specs.Functions as spec
use Rattle.c_scopes.proofs.Steps.{next_item, drop_end, types_step, types_end}
use Rattle.c_scopes.proofs.forbidden.have_types.Goals as goal

pub loop-p-preserved : goal.loop-p-preserved
loop-p-preserved c =
    let next = next_item c.loop-p.p-index c.args.list.now c.p-item.result c.loop-p-test.true c.p-item.is in
    record {
      index = ap (λ n. n + 1) c.loop-p.invariant.index;
      same = types_step spec.parameter_type _ _ _ next c.args.types.now c.loop-p.i _ _ _ _ c.loop-p.invariant.same c.is_type_at-one.ensures c.both-more.ensures;
    }

pub returns : goal.returns
returns c = c.ends.ensures ∙ types_end spec.parameter_type _ (drop_end c.loop-p.p-index c.args.list.now c.loop-p-test.false) c.args.types.now c.loop-p.i _ _ c.loop-p.invariant.same
