use Rattle.machine_turn.specs.Held.{state_of}
use Rattle.machine_turn.specs.Turn.{made_of}
use Rattle.machine_step.proofs.Settling.{settle_ends}
use Rattle.machine_step.proofs.making.settle.Goals as goal

pub returns-in-Some-clause-answers : goal.returns-in-Some-clause-answers
returns-in-Some-clause-answers g c =
    settle_ends c.args.m.now.waiting c.halt.new.m (g.K.Sink.written c.args.sink.now) (g.K.Sink.written c.halt.new.sink) c.args.outcome.status c.in-Some.status
    (made_of c.args.m.now.held c.args.outcome) (state_of c.args.m.now.held) (g.K.Sink.written c.print.new.sink) c.print.new.waiting (g.K.Sink.faults c.print.new.sink)
    (g.K.Sink.faults c.halt.new.sink) c.halt.result c.in-Some.is c.in-Ok.ensures.prints c.halt.ensures.halts c.halt.ensures.stopped
