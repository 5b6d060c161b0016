use Rattle.c_scopes.proofs.Steps.{next_item}
use Rattle.c_types.proofs.Steps.{statics_step, statics_told}
use Rattle.c_types.proofs.statics.static_items.Goals as goal

pub loop-i-preserved : goal.loop-i-preserved
loop-i-preserved g c =
    let next = next_item c.loop-i.i-index c.args.list.now c.i-item.result c.loop-i-test.true c.i-item.is in
    record {
      file = statics_step c.args.signatures.now g.W.Word.BITS c.args.of _ _ _ next _ _ c.in_ok-more.ensures.file _ c.loop-i.invariant.file;
      told = statics_told c.args.signatures.now g.W.Word.BITS c.args.of _ _ _ next _ _ c.in_ok-more.ensures.file _ _ _ c.loop-i.invariant.told c.in_ok-more.ensures.told;
    }
