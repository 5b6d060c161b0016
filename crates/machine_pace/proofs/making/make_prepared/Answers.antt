use Rattle.std.proofs.Common.{Some, sym, subst}
use Rattle.std.specs.Prelude.{All}
use Rattle.machine_turn.specs.Held.{IsMadeMove}
use Rattle.machine_step.specs.Steps.{StepIs}
use Rattle.machine_step.proofs.Settling.{alone_step}
use Rattle.machine_forms.specs.Forms.{form_moves, moves_of}
use Rattle.machine_forms.proofs.Reading.{is_fit, takes_none}
use Rattle.machine_pace.proofs.making.make_prepared.Goals as goal

pub make_common-requires-clause-fit : goal.make_common-requires-clause-fit
make_common-requires-clause-fit g c =
    is_fit g.W.Word.BITS c.in-Common.form (subst (λ p. All (IsMadeMove g.W.Word.BITS) (moves_of p)) c.in-Common.is c.requires.made)

pub returns-in-Common-clause-step : goal.returns-in-Common-clause-step
returns-in-Common-clause-step g c =
    subst
    (λ p. StepIs g.W.Word.BITS (Some (moves_of p)) c.args.m.now c.make_common.new.m (g.S.Source.left c.args.source.now) (g.S.Source.left c.args.source.now)
    (g.K.Sink.written c.args.sink.now) (g.K.Sink.written c.make_common.new.sink) (g.S.Source.ends c.args.source.now) (g.S.Source.ends c.args.source.now)
    (g.K.Sink.faults c.args.sink.now) (g.K.Sink.faults c.make_common.new.sink) c.make_common.result)
    (sym c.in-Common.is)
    (alone_step g.W.Word.BITS (form_moves c.in-Common.form) c.args.m.now c.make_common.new.m (g.S.Source.left c.args.source.now) (g.K.Sink.written c.args.sink.now)
    (g.K.Sink.written c.make_common.new.sink) (g.S.Source.ends c.args.source.now) (g.K.Sink.faults c.args.sink.now) (g.K.Sink.faults c.make_common.new.sink)
    c.make_common.result (takes_none c.in-Common.form) c.make_common.ensures.step)
