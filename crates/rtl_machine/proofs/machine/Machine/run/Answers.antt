use Rattle.std.proofs.Common.{map, Some, sym, subst}
use Rattle.machine_forms.specs.Forms.{moves_of}
use Rattle.machine_step.specs.Runs.{AllRan}
use Rattle.rtl_machine.specs.Loading.{IsLoaded}
use Rattle.rtl_machine.proofs.Joined.{runs_from}
use Rattle.rtl_machine.proofs.machine.Machine.run.Goals as goal

pub returns-clause-from_start : goal.returns-clause-from_start
returns-clause-from_start g c = λ p l.
    let start = subst (λ m. IsLoaded g.W.Word.BITS p m) (sym c.self.view_is) l in
    let ran =
    subst
    (λ code. AllRan g.W.Word.BITS (map moves_of code) c.self.inside.parts.running c.run.new.m (g.S.Source.left c.args.s.now) (g.S.Source.left c.run.new.source)
    (g.K.Sink.written c.args.k.now) (g.K.Sink.written c.run.new.sink) (g.S.Source.ends c.args.s.now) (g.S.Source.ends c.run.new.source) c.args.steps
    (Some c.run.result))
    c.deref.ensures.value (c.run.ensures.ran start.stopped) in
    runs_from g.W.Word.BITS p c.self.inside.parts c.run.new.m (g.S.Source.left c.args.s.now) (g.S.Source.left c.run.new.source) (g.K.Sink.written c.args.k.now)
    (g.K.Sink.written c.run.new.sink) (g.S.Source.faults c.args.s.now) (g.S.Source.faults c.run.new.source) (g.K.Sink.faults c.args.k.now)
    (g.K.Sink.faults c.run.new.sink) (g.S.Source.ends c.args.s.now) (g.S.Source.ends c.run.new.source) c.args.steps c.run.result start ran
    (c.run.ensures.causes start.stopped)
