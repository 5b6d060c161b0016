use Rattle.std.proofs.Common.{◌≡◌, Err, ap}
use Rattle.md_parser.specs.declared.declared.LinesFault.TheVariants.{NoForm}
use Rattle.md_parser.proofs.LinesDeclared.{short_at, one_declared, formless_at}
use Rattle.md_parser.proofs.declared.declarations.Goals as goal

pub declaration-requires-clause-short : goal.declaration-requires-clause-short
declaration-requires-clause-short c = short_at c.args.lines.now c.loop-line.line-index _ c.loop-line-test.true c.requires.short

pub returns-in-Err-clause-refused : goal.returns-in-Err-clause-refused
returns-in-Err-clause-refused c = λ n e.
    let fault : c.in-Err.fault ≡ NoForm n = cc in
    let both = c.in-Err.ensures.refused n (ap Err fault) in
    formless_at c.args.bits c.args.lines.now c.loop-line.line-index n _ c.loop-line.all c.loop-line-test.true c.loop-line.invariant both.0 both.1

pub loop-line-preserved : goal.loop-line-preserved
loop-line-preserved c =
    one_declared c.args.bits c.args.lines.now c.loop-line.line-index _ c.loop-line.all c.push.new.self c.in-Ok.declaration c.loop-line-test.true c.loop-line.invariant
    c.in-Ok.ensures.found.0 c.in-Ok.ensures.found.1 c.in_ok-push.ensures.ok
