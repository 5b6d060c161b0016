-- What an instruction of a common form comes to.
use Rattle.std.proofs.Common.{◌≡◌, ℕ, ◌+◌, ◌<◌, List, [], length, map, slice_index_or, Option, Some, None, Err, refl, sym, ap, ◌∙◌, subst}
use Rattle.std.proofs.lemmas.List.{length-map, get_or-map}
use Rattle.std.specs.Prelude.{All, slice_get}
use Rattle.rtl_tree.specs.Moves.{Move}
use Rattle.rtl_value.specs.declared.state.Trap.{Trap}
use Rattle.machine_turn.specs.declared.held.Held.{Held}
use Rattle.machine_turn.specs.Held.{IsMadeMove, state_of}
use Rattle.machine_turn.specs.Turn.{made_by}
use Rattle.machine_run.specs.Machine.{trap_number}
use Rattle.machine_effect.specs.Turns.{On, turned_by, turn_on}
use Rattle.machine_step.specs.declared.running.Running.{Running}
use Rattle.machine_step.specs.declared.running.Stop.{Stop}
use Rattle.machine_step.specs.declared.running.Stop.TheVariants.{Trapped}
use Rattle.machine_step.specs.Steps.{Answers, HaltIs, StepIs, AloneIs, made_alone, trapped_alone}
use Rattle.machine_step.proofs.Bytes.{prints_nothing}
use Rattle.machine_step.proofs.Traps.{tested_traps}
use Rattle.machine_step.proofs.Settling.{at_is, test_is, line_step}
use Rattle.machine_forms.specs.declared.forms.Prepared.{Prepared}
use Rattle.machine_forms.specs.Forms.{moves_of}

module _ (w : ℕ) (ms : List Move) (m : Running) (next : m.held.next ≡ m.place + 1) where
  pub form_goes : (h : Held) (place : ℕ) (written : Option (List ℕ)) (writes : ℕ) → m.stopped ≡ None
      → turned_by (made_by w None ms (state_of m.held)) (state_of m.held) ≡ On (state_of h) place []
      → AloneIs w (Some ms) m (record m { held = h; place = place }) written written writes writes None
  form_goes h place written writes goes e =
      let turn : turn_on w (Some ms) None m.place (state_of m.held) ≡ On (state_of h) place [] =
      ap (λ s. turned_by (made_by w None ms s) s) (at_is m.place m.held next) ∙ e in
      made_alone
      (subst (λ t. Answers t m.waiting (record m { held = h; place = place }) written written None) (sym turn)
      ((refl, refl), prints_nothing written m.waiting, goes))
      refl

  pub form_traps : (n : Running) (written written' : Option (List ℕ)) (writes writes' : ℕ) (trap : Trap) (stop : Stop)
      → made_by w None ms (state_of m.held) ≡ Err trap → HaltIs written written' m.waiting writes writes' (Trapped (trap_number trap) m.place) stop
      → n.stopped ≡ Some stop → n.reader ≡ m.reader → AloneIs w (Some ms) m n written written' writes writes' (Some stop)
  form_traps n written written' writes writes' trap stop e halts stopped reader =
      trapped_alone trap stop (sym (test_is w ms m.place m.held next) ∙ tested_traps w None (state_of m.held) trap ms e) halts refl stopped reader

-- a step of the instruction that stands at the machine's place
pub prepared_step : (w : ℕ) (code : List Prepared) (line : Prepared) (m n : Running) (k : ℕ) (left left' written written' : Option (List ℕ))
    (ends ends' writes writes' : ℕ) (r : Option Stop) → m.place < length code → line ≡ slice_index_or code m.place line
    → StepIs w (Some (moves_of line)) (record m { held = record m.held { next = k } }) n left left' written written' ends ends' writes writes' r
    → StepIs w (slice_get (map moves_of code) m.place) m n left left' written written' ends ends' writes writes' r
prepared_step w code line m n k left left' written written' ends ends' writes writes' r l e h =
    line_step w (map moves_of code) (moves_of line) (moves_of line) m n k left left' written written' ends ends' writes writes' r
    (subst (λ x. m.place < x) (sym (length-map code moves_of)) l) refl
    (ap moves_of e ∙ sym (get_or-map moves_of code m.place line (moves_of line) l)) h

-- the moves of an instruction of code that the machine makes
pub made_at : (w : ℕ) (code : List Prepared) (line : Prepared) (k : ℕ) → All (λ ms. All (IsMadeMove w) ms) (map moves_of code) → k < length code
    → line ≡ slice_index_or code k line → All (IsMadeMove w) (moves_of line)
made_at w code line k h l e =
    subst (λ ms. All (IsMadeMove w) ms) (get_or-map moves_of code k line (moves_of line) l ∙ sym (ap moves_of e))
    (h k (moves_of line) (subst (λ x. k < x) (sym (length-map code moves_of)) l))
