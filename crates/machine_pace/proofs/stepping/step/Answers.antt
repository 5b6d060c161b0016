use Rattle.machine_step.proofs.Whole.{all_ran}
use Rattle.std.specs.Prelude.{map}
use Rattle.machine_forms.specs.Forms.{moves_of}
use Rattle.machine_pace.proofs.stepping.step.Goals as goal

pub returns-clause-ran : goal.returns-clause-ran
returns-clause-ran g c = λ n.
    all_ran g.W.Word.BITS (map moves_of c.args.code.now) c.args.m.now c.go.new.m (g.S.Source.left c.args.source.now) (g.S.Source.left c.go.new.source) (g.K.Sink.written c.args.sink.now)
    (g.K.Sink.written c.go.new.sink) (g.S.Source.ends c.args.source.now) (g.S.Source.ends c.go.new.source) (g.K.Sink.faults c.args.sink.now) (g.K.Sink.faults c.go.new.sink)
    c.go.result c.requires.ready.held.many c.requires.ready.held.eight c.go.ensures.step
