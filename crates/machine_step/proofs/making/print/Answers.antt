use Rattle.std.proofs.Common.{◌≡◌, [], ◌∷◌, sym, subst}
use Rattle.std.specs.Prelude.{OnErr}
use Rattle.machine_run.specs.Machine.{byte_out}
use Rattle.machine_step.specs.Steps.{PrintsPart}
use Rattle.machine_step.proofs.Bytes.{on_err, prints_part}
use Rattle.machine_step.proofs.making.print.Goals as goal

pub returns-in-Some-clause-part : goal.returns-in-Some-clause-part
returns-in-Some-clause-part g c =
    subst (λ o. OnErr c.put.result (PrintsPart (g.K.Sink.written c.args.sink.now) c.args.waiting.now (g.K.Sink.written c.put.new.sink) (byte_out o))) (sym c.in-Some.is)
    (on_err c.put.result _ _ (prints_part (g.K.Sink.written c.args.sink.now) (g.K.Sink.written c.put.new.sink) c.args.waiting.now (c.in-Some.byte ∷ [])) c.put.ensures.part)
