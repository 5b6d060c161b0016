use Rattle.c_typing.specs.Functions as spec
use Rattle.c_scopes.proofs.Steps.{next_item}
use Rattle.c_functions.specs.Tables.{number_at}
use Rattle.c_functions.proofs.Steps.{signatures_step}
use Rattle.c_functions.proofs.signatures.all_signatures.Goals as goal

pub loop-part-preserved : goal.loop-part-preserved
loop-part-preserved c =
    let next = next_item c.loop-part.part-index c.args.parts.now c.part-item.result c.loop-part-test.true c.part-item.is in
    signatures_step _ _ _ next (spec.signature (number_at c.args.definitions.now.table)) _ _ _ c.loop-part.invariant c.in_ok-more.ensures
