use Rattle.std.proofs.Common.{arith, ◌<◌, ◌+◌, length}
use Rattle.machine_pace.proofs.Steps.{made_at, prepared_step}
use Rattle.machine_pace.proofs.making.go.Goals as goal

pub returns-clause-step : goal.returns-clause-step
returns-clause-step g c =
    let within : c.args.m.now.place < length c.args.code.now = grind (arith, c.if-code-place.false) in
    prepared_step g.W.Word.BITS c.args.code.now c.index-code-place.result c.args.m.now c.make_prepared.new.m (c.args.m.now.place + 1)
    (g.S.Source.left c.args.source.now) (g.S.Source.left c.make_prepared.new.source) (g.K.Sink.written c.args.sink.now) (g.K.Sink.written c.make_prepared.new.sink)
    (g.S.Source.ends c.args.source.now) (g.S.Source.ends c.make_prepared.new.source) (g.K.Sink.faults c.args.sink.now) (g.K.Sink.faults c.make_prepared.new.sink)
    c.make_prepared.result within c.index-code-place.is c.make_prepared.ensures.step

pub make_prepared-requires-clause-made : goal.make_prepared-requires-clause-made
make_prepared-requires-clause-made g c =
    let within : c.args.m.now.place < length c.args.code.now = grind (arith, c.if-code-place.false) in
    made_at g.W.Word.BITS c.args.code.now c.index-code-place.result c.args.m.now.place c.requires.code.made within c.index-code-place.is
