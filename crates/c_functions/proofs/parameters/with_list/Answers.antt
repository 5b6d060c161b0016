use Rattle.c_scopes.proofs.Steps.{next_item}
use Rattle.c_functions.proofs.Steps.{parameters_step, parameters_told}
use Rattle.c_functions.proofs.parameters.with_list.Goals as goal

pub loop-x-preserved : goal.loop-x-preserved
loop-x-preserved c =
    let next = next_item c.loop-x.x-index c.args.list.now c.x-item.result c.loop-x-test.true c.x-item.is in
    record {
      params = parameters_step c.args.place.included c.args.place.start c.args.place.defines _ _ _ next _ _ c.in_ok-more.ensures.params _ c.loop-x.invariant.params;
      told = parameters_told c.args.place.included c.args.place.start c.args.place.defines _ _ _ next _ _ c.in_ok-more.ensures.params _ _ _ c.loop-x.invariant.told c.in_ok-more.ensures.told;
    }
