use Rattle.std.proofs.Common.{◌∙◌}
use Rattle.md_expand.specs.Fillings.{all_seen, listed}
use Rattle.md_expand.proofs.ModeFillings.{one_further}
use Rattle.md_expand.proofs.modes.alternatives_by_mode.Goals as goal

pub loop-declaration-preserved : goal.loop-declaration-preserved
loop-declaration-preserved c =
    let l = c.loop-declaration in
    λ w ds name.
    one_further w ds name c.args.all.now l.declaration-index c.declaration-item.result (all_seen w ds (listed l.alternatives name)) _
    c.loop-declaration-test.true c.declaration-item.is (c.in_ok-alternatives.ensures w ds name)
    ∙ l.invariant w ds name
