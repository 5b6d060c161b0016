use Rattle.c_scopes.proofs.Steps.{next_item}
use Rattle.c_functions.proofs.Steps.{main_step}
use Rattle.c_functions.proofs.headings.has_main.Goals as goal

pub loop-part-preserved : goal.loop-part-preserved
loop-part-preserved c =
    let next = next_item c.loop-part.part-index c.args.parts.now c.part-item.result c.loop-part-test.true c.part-item.is in
    main_step _ _ _ next _ _ _ _ c.loop-part.invariant c.defines_main-one.ensures c.either-more.ensures
