use Rattle.machine_step.proofs.Settling.{taken_step}
use Rattle.machine_step.proofs.making.make_taken.Goals as goal

pub returns-in-Ok-clause-step : goal.returns-in-Ok-clause-step
returns-in-Ok-clause-step g c =
    taken_step g.W.Word.BITS c.args.moves.now c.args.m.now c.take.new.m c.make_given.new.m (g.S.Source.left c.args.source.now) (g.S.Source.left c.take.new.source)
    (g.K.Sink.written c.args.sink.now) (g.K.Sink.written c.take.new.sink) (g.K.Sink.written c.make_given.new.sink) (g.S.Source.ends c.args.source.now)
    (g.S.Source.ends c.take.new.source) (g.K.Sink.faults c.args.sink.now) (g.K.Sink.faults c.make_given.new.sink) c.in-Ok.given c.make_given.result
    c.requires.takes c.requires.next c.in-Ok.ensures.kept.held c.make_given.ensures.reader c.in-Ok.ensures.takes.0 c.in-Ok.ensures.takes.1
    c.make_given.ensures.answers
