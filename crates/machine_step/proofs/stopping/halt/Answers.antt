use Rattle.machine_step.specs.Steps.{by_write}
use Rattle.machine_step.proofs.Bytes.{prints_part_waiting}
use Rattle.machine_step.proofs.stopping.halt.Goals as goal

pub returns-in-Err-clause-halts : goal.returns-in-Err-clause-halts
returns-in-Err-clause-halts g c =
    let part = prints_part_waiting (g.K.Sink.written c.args.sink.now) (g.K.Sink.written c.flush.new.sink) c.args.m.now.waiting c.in-Err.ensures.part in
    by_write part.0 c.note-in-Err.ensures.answer part.1 c.in-Err.ensures.cause.failed
