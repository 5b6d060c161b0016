use Rattle.std.proofs.Common.{arith, ◌∙◌, ◌<◌, ◌+◌, length}
use Rattle.machine_step.proofs.Settling.{line_step}
use Rattle.machine_step.proofs.making.go.Goals as goal

pub returns-clause-step : goal.returns-clause-step
returns-clause-step g c =
    let within : c.args.m.now.place < length c.args.code.now = grind (arith, c.if-code-place.false) in
    line_step g.W.Word.BITS c.args.code.now c.as_slice.result.now c.index-code-place.result c.args.m.now c.make_line.new.m (c.args.m.now.place + 1)
    (g.S.Source.left c.args.source.now) (g.S.Source.left c.make_line.new.source) (g.K.Sink.written c.args.sink.now) (g.K.Sink.written c.make_line.new.sink)
    (g.S.Source.ends c.args.source.now) (g.S.Source.ends c.make_line.new.source) (g.K.Sink.faults c.args.sink.now) (g.K.Sink.faults c.make_line.new.sink)
    c.make_line.result within (c.as_slice.ensures ∙ c.line.view_is) c.index-code-place.is c.make_line.ensures.step
