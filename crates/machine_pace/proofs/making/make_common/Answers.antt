use Rattle.machine_forms.specs.Forms.{form_moves}
use Rattle.machine_pace.proofs.Steps.{form_goes, form_traps}
use Rattle.machine_pace.proofs.making.make_common.Goals as goal

pub returns-in-Ok-clause-step : goal.returns-in-Ok-clause-step
returns-in-Ok-clause-step g c =
    form_goes g.W.Word.BITS (form_moves c.args.form.now) c.args.m.now c.requires.next _ c.in-Ok.place (g.K.Sink.written c.args.sink.now) (g.K.Sink.faults c.args.sink.now)
    c.requires.goes c.in-Ok.ensures.goes

pub returns-in-Err-clause-step : goal.returns-in-Err-clause-step
returns-in-Err-clause-step g c =
    form_traps g.W.Word.BITS (form_moves c.args.form.now) c.args.m.now c.requires.next c.trapped.new.m (g.K.Sink.written c.args.sink.now) (g.K.Sink.written c.trapped.new.sink)
    (g.K.Sink.faults c.args.sink.now) (g.K.Sink.faults c.trapped.new.sink) c.in-Err.trap c.trapped.result c.in-Err.ensures.goes.0 c.trapped.ensures.halts
    c.trapped.ensures.stopped c.trapped.ensures.kept.reader
