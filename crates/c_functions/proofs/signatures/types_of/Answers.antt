use Rattle.c_typing.specs.Functions as spec
use Rattle.c_scopes.proofs.Steps.{next_item}
use Rattle.c_functions.proofs.Steps.{map_step}
use Rattle.c_functions.proofs.signatures.types_of.Goals as goal

pub loop-p-preserved : goal.loop-p-preserved
loop-p-preserved c =
    let next = next_item c.loop-p.p-index c.args.list.now c.p-item.result c.loop-p-test.true c.p-item.is in
    map_step spec.parameter_type _ _ _ next _ _ _ c.loop-p.invariant c.in_ok-more.ensures
