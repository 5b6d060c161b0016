use Rattle.std.proofs.Common.{None, sym, subst}
use Rattle.machine_turn.specs.Held.{state_of}
use Rattle.machine_turn.specs.Turn.{made_by}
use Rattle.machine_forms.specs.Forms.{form_moves}
use Rattle.machine_forms.specs.Going.{GoesAs}
use Rattle.machine_forms.proofs.making.make_form.Goals as goal

pub returns-in-SetFlags-clause-goes : goal.returns-in-SetFlags-clause-goes
returns-in-SetFlags-clause-goes g c =
    subst (λ f. GoesAs (made_by g.W.Word.BITS None (form_moves f) (state_of c.args.s.now)) c.args.s.now c.set_with_flags.new.s c.set_with_flags.result)
    (sym c.in-SetFlags.is) c.set_with_flags.ensures.goes

pub returns-in-StoreFlags-clause-goes : goal.returns-in-StoreFlags-clause-goes
returns-in-StoreFlags-clause-goes g c =
    subst (λ f. GoesAs (made_by g.W.Word.BITS None (form_moves f) (state_of c.args.s.now)) c.args.s.now c.put_with_flags.new.s c.put_with_flags.result)
    (sym c.in-StoreFlags.is) c.put_with_flags.ensures.goes
