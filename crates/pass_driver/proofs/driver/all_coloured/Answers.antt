use Rattle.std.proofs.Common.{sym, subst, arith}
use Rattle.temp_code.specs.declared.code.Code.{Code}
use Rattle.pass_driver.specs.Passes.{IsReady, IsColored}
use Rattle.pass_driver.proofs.Coloring.{next_left, none_left, all_got}
use Rattle.pass_driver.proofs.driver.all_coloured.Goals as goal

pub coloured-requires-clause-ready : goal.coloured-requires-clause-ready
coloured-requires-clause-ready g c =
    subst (λ (x : Code). IsReady c.args.m.now x) (sym c.code-item.is)
    (all_got (IsReady c.args.m.now) c.args.codes.now c.loop-code.code-index c.code-item.result c.loop-code-test.true c.requires.ready)

pub loop-code-preserved : goal.loop-code-preserved
loop-code-preserved g c =
    next_left c.args.m.now c.args.codes.now c.loop-code.code-index c.code-item.result c.in_ok-coloured.field-0 c.loop-code.made c.push.new.self c.loop-code-test.true
    c.in_ok-push.ensures.ok (subst (λ (x : Code). IsColored c.args.m.now x c.in_ok-coloured.field-0) c.code-item.is c.in_ok-coloured.ensures) c.loop-code.invariant

pub returns : goal.returns
returns g c = none_left c.args.m.now c.args.codes.now c.loop-code.code-index c.loop-code.made (omega (arith, c.loop-code-test.false)) c.loop-code.invariant
