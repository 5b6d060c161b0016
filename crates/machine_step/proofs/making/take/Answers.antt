use Rattle.machine_step.proofs.Bytes.{consumes_nothing, marks_none, prints_part_waiting}
use Rattle.machine_step.proofs.making.take.Goals as goal

pub returns-in-Err-clause-takes : goal.returns-in-Err-clause-takes
returns-in-Err-clause-takes g c = (
  (prints_part_waiting (g.K.Sink.written c.args.sink.now) (g.K.Sink.written c.flush.new.sink) c.args.m.now.waiting c.in-Err.ensures.part),
  (consumes_nothing (g.S.Source.left c.args.source.now)),
  (marks_none c.args.m.now.reader.ended (g.S.Source.ends c.args.source.now) (g.S.Source.left c.args.source.now)),
)
