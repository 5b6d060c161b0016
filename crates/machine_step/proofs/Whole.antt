-- Steps are the definition's run.
use Rattle.std.proofs.Common.{◌≡◌, ℕ, zero, suc, ◌+◌, ◌≤◌, Bool, true, false, List, [], ◌∷◌, ◌++◌, map, length, Option, Some, None, Result, Ok, Err, refl, sym, ap, ◌∙◌, subst, append_assoc, append-nil, arith}
use Rattle.std.specs.Prelude.{slice_get, option_map, All}
use Rattle.std.specs.Io.KnownBytes.{Consumes}
use Rattle.behaviour.specs.Behaviour.{Behaviour, Running as GoingOn, Ended as EndedBy, Failed, Trapped as TrappedBy, output}
use Rattle.behaviour.specs.Steps.{Move as Turn, Goes, Stops, Fails, run_by}
use Rattle.rtl_tree.specs.Moves.{Move}
use Rattle.rtl_value.specs.declared.state.Trap.{Trap}
use Rattle.rtl_value.specs.declared.state.State.{State}
use Rattle.machine_run.specs.Machine.{Code, MachineState, start, turn, trap_number, machine_run}
use Rattle.machine_devices.specs.Devices.{Prints}
use Rattle.machine_turn.specs.Held.{state_of}
use Rattle.machine_turn.specs.Turn.{tested_by, made_by}
use Rattle.machine_effect.specs.Turns.{Turned, On, Ends, TrapsBy, turn_on, takes_at, bytes_taken, EndMeans}
use Rattle.machine_effect.specs.Standing.{Stands, TurnIs}
use Rattle.machine_effect.specs.Law.{IsMade}
use Rattle.machine_effect.proofs.Turning.{turn_is_turn}
use Rattle.machine_step.specs.declared.running.Running.{Running}
use Rattle.machine_step.specs.declared.running.Stop.{Stop}
use Rattle.machine_step.specs.declared.running.Stop.TheVariants.{Ended, Trapped, Spent, ReadFault, WriteFault}
use Rattle.machine_step.specs.Steps.{out_of, GoesTo, EndsAs, Answers, HaltIs, as_meant, by_write, SawEnd, MarkMoves, Takes, tested_on, ByTurn, ByTrap, FaultIs, ByFault, StepIs, by_turn, by_trap, by_fault}
use Rattle.machine_step.specs.Runs.{linked_moves, IsCodeOf, named, Comes, MayFollow, HasRun, ReachesInput, RunIs, MadeAll, Ran, AllRan}
use Rattle.machine_step.proofs.Traps.{turn_traps}
use Rattle.machine_step.proofs.Linking.{named_turned, turn_linked, tests_linked, takes_at_linked, line_linked}
use Rattle.machine_step.proofs.Bytes.{consumes_nothing, consumes_then, prints_nothing, prints_then, prints_waiting, marks_none, marks_then, follows_before}

abbrev shown : MachineState → List ℕ
shown x = x.printed

one_more : (p : Code) (s t : MachineState) (n : ℕ) (input : List ℕ) → turn p s ≡ Goes t
    → ((j : ℕ) → run_by (turn p) shown (n + j) (start p input) ≡ run_by (turn p) shown j s)
    → (j : ℕ) → run_by (turn p) shown (n + 1 + j) (start p input) ≡ run_by (turn p) shown j t
one_more p s t n input e h j =
    let next : n + 1 + j ≡ n + suc j = omega arith in
    ap (λ k. run_by (turn p) shown k (start p input)) next ∙ h (suc j) ∙ rw e refl

stops_at : (p : Code) (s : MachineState) (n : ℕ) (input out : List ℕ) (status : ℕ) → turn p s ≡ Stops out status
    → ((j : ℕ) → run_by (turn p) shown (n + j) (start p input) ≡ run_by (turn p) shown j s) → machine_run p input (n + 1) ≡ EndedBy out status
stops_at p s n input out status e h = h 1 ∙ rw e refl

fails_at : (p : Code) (s : MachineState) (n : ℕ) (input out : List ℕ) (kind place : ℕ) → turn p s ≡ Fails out (TrappedBy kind place)
    → ((j : ℕ) → run_by (turn p) shown (n + j) (start p input) ≡ run_by (turn p) shown j s) → machine_run p input (n + 1) ≡ Failed out (TrappedBy kind place)
fails_at p s n input out kind place e h = h 1 ∙ rw e refl

pub goes_at : (p : Code) (s : MachineState) (n : ℕ) (input : List ℕ) → ((j : ℕ) → run_by (turn p) shown (n + j) (start p input) ≡ run_by (turn p) shown j s)
    → machine_run p input (n + 0) ≡ GoingOn s.printed
goes_at p s n input h = h 0

ends_output : (p : Code) (s : MachineState) (out : List ℕ) (status : ℕ) → turn p s ≡ Stops out status → output (run_by (turn p) shown 1 s) ≡ out
ends_output p s out status e = rw e refl

fails_output : (p : Code) (s : MachineState) (out : List ℕ) (kind place : ℕ) → turn p s ≡ Fails out (TrappedBy kind place) → output (run_by (turn p) shown 1 s) ≡ out
fails_output p s out kind place e = rw e refl

goes_output : (p : Code) (s t : MachineState) → turn p s ≡ Goes t → output (run_by (turn p) shown 1 s) ≡ t.printed
goes_output p s t e = rw e refl

end_means : (b : Bool) (given : Option ℕ) (ended : Bool) (more : List ℕ) → SawEnd b given ended → (ended ≡ true → more ≡ []) → EndMeans b given more
end_means true None ended more h k = k h
end_means true (Some b) ended more h k = tt
end_means false given ended more h k = tt

-- one turn of a program whose code this is
module _ (p : Code) (code : List (List Move)) (made : All (IsMade p.word) p.transfers) (is : code ≡ map (linked_moves p) p.transfers) where
  line_is : (k : ℕ) → slice_get code k ≡ option_map (linked_moves p) (slice_get p.transfers k)
  line_is k = ap (λ c. slice_get c k) is ∙ line_linked p p.transfers k

  takes_is : (k : ℕ) → takes_at (slice_get code k) ≡ takes_at (slice_get p.transfers k)
  takes_is k = ap takes_at (line_is k) ∙ takes_at_linked p (slice_get p.transfers k)

  module _ (m : Running) (many : length m.held.registers ≡ 64) (eight : length m.held.flags ≡ 8) where
    abbrev here : State
    here = state_of m.held

    code_turn : (given : Option ℕ) → turn_on p.word (slice_get p.transfers m.place) given m.place (named p here)
        ≡ named_turned p (turn_on p.word (slice_get code m.place) given m.place here)
    code_turn given =
        turn_linked p.word p (slice_get p.transfers m.place) given m.place here
        ∙ ap (λ o. named_turned p (turn_on p.word o given m.place here)) (sym (line_is m.place))

    -- the turn of the definition, from a state that shows the machine's
    turn_comes : (given : Option ℕ) (more : List ℕ) (s : MachineState)
        → Stands p.word m.place (named p here) (bytes_taken (takes_at (slice_get code m.place)) given ++ more) s
        → EndMeans (takes_at (slice_get code m.place)) given more
        → TurnIs p.word more s (turn p s) (named_turned p (turn_on p.word (slice_get code m.place) given m.place here))
    turn_comes given more s h e =
        subst (λ t. TurnIs p.word more s (turn p s) t) (code_turn given)
        (turn_is_turn p made m.place (named p here) many eight given more s
        (subst (λ b. Stands p.word m.place (named p here) (bytes_taken b given ++ more) s) (takes_is m.place) h)
        (subst (λ b. EndMeans b given more) (takes_is m.place) e))

    -- a trap doesn't depend on the byte that is next
    abbrev first_given : Bool → List ℕ → Option ℕ
    first_given true (b ∷ bs) = Some b
    first_given true [] = None
    first_given false more = None

    abbrev first_rest : Bool → List ℕ → List ℕ
    first_rest true (b ∷ bs) = bs
    first_rest true [] = []
    first_rest false more = more

    first_is : (b : Bool) (more : List ℕ) → bytes_taken b (first_given b more) ++ first_rest b more ≡ more
    first_is true (b ∷ bs) = refl
    first_is true [] = refl
    first_is false more = refl

    first_means : (b : Bool) (more : List ℕ) → EndMeans b (first_given b more) (first_rest b more)
    first_means true (b ∷ bs) = tt
    first_means true [] = refl
    first_means false more = tt

    trap_comes : (trap : Trap) (more : List ℕ) (s : MachineState) → tested_on p.word (slice_get code m.place) m.place here ≡ Err trap
        → Stands p.word m.place (named p here) more s → turn p s ≡ Fails s.printed (TrappedBy (trap_number trap) m.place)
    trap_comes trap more s e h =
        let given : Option ℕ = first_given (takes_at (slice_get code m.place)) more in
        let rest : List ℕ = first_rest (takes_at (slice_get code m.place)) more in
        subst (λ k. turn p s ≡ Fails s.printed (TrappedBy (trap_number trap) k)) h.place_is
        (subst (λ t. TurnIs p.word rest s (turn p s) (named_turned p t)) (turn_traps p.word (slice_get code m.place) given m.place here trap e)
        (turn_comes given rest s
        (subst (λ i. Stands p.word m.place (named p here) i s) (sym (first_is (takes_at (slice_get code m.place)) more)) h)
        (first_means (takes_at (slice_get code m.place)) more)))

    module _ (n : Running) (left left' written written' : Option (List ℕ)) (ends ends' : ℕ) (taken out : List ℕ) (turns : ℕ) (runs : HasRun p.word p m taken out turns) where
      -- the state of the definition before the step, on the bytes that it takes and those that may follow
      before : (x more : List ℕ) → MarkMoves m.reader.ended n.reader.ended ends ends' left left' x → MayFollow n more
          → Comes p.word p ((taken ++ x) ++ more) turns m (x ++ more) out
      before x more k f =
          subst (λ i. Comes p.word p i turns m (x ++ more) out) (sym (append_assoc taken x more))
          (runs (x ++ more) (follows_before m.reader.ended n.reader.ended ends ends' left left' x more k f))

      module _ (given : Option ℕ) (takes : Takes (takes_at (slice_get code m.place)) left left' m.reader.ended n.reader.ended ends ends' given) where
        abbrev bytes : List ℕ
        bytes = bytes_taken (takes_at (slice_get code m.place)) given

        abbrev turned : Turned
        turned = turn_on p.word (slice_get code m.place) given m.place here

        turn_at : (more : List ℕ) (f : MayFollow n more) (c : Comes p.word p ((taken ++ bytes) ++ more) turns m (bytes ++ more) out)
            → TurnIs p.word more c.state (turn p c.state) (named_turned p turned)
        turn_at more f c = turn_comes given more c.state c.stands (end_means (takes_at (slice_get code m.place)) given n.reader.ended more takes.saw f)

        goes_on : (t : Turned) (more : List ℕ) (c : Comes p.word p ((taken ++ bytes) ++ more) turns m (bytes ++ more) out)
            → TurnIs p.word more c.state (turn p c.state) (named_turned p t) → GoesTo t n → Comes p.word p ((taken ++ bytes) ++ more) (turns + 1) n more (out ++ out_of t)
        goes_on (On s place o) more c h g = record {
          state = h.0;
          leads = one_more p c.state h.0 turns ((taken ++ bytes) ++ more) h.1 c.leads;
          stands =
              subst (λ k. Stands p.word k (named p (state_of n.held)) more h.0) g.1
              (subst (λ x. Stands p.word place (named p x) more h.0) g.0 h.2);
          printed_is = h.3 ∙ ap (λ x. x ++ o) c.printed_is;
        }
        goes_on (Ends o status) more c h g = absurd g
        goes_on (TrapsBy trap) more c h g = absurd g

        ends_run : (t : Turned) (status : ℕ) (more : List ℕ) (c : Comes p.word p ((taken ++ bytes) ++ more) turns m (bytes ++ more) out)
            → TurnIs p.word more c.state (turn p c.state) (named_turned p t) → EndsAs t status
            → machine_run p ((taken ++ bytes) ++ more) (turns + 1) ≡ EndedBy (out ++ out_of t) status
        ends_run (On s place o) status more c h g = absurd g
        ends_run (Ends o code') status more c h g =
            stops_at p c.state turns ((taken ++ bytes) ++ more) (c.state.printed ++ o) code' h c.leads
            ∙ ap (λ x. EndedBy (x ++ o) code') c.printed_is ∙ ap (λ x. EndedBy (out ++ o) x) g
        ends_run (TrapsBy trap) status more c h g = absurd g

        -- what one turn prints, be it that it goes on, ends or traps
        prints_run : (t : Turned) (more : List ℕ) (c : Comes p.word p ((taken ++ bytes) ++ more) turns m (bytes ++ more) out)
            → TurnIs p.word more c.state (turn p c.state) (named_turned p t)
            → output (machine_run p ((taken ++ bytes) ++ more) (turns + 1)) ≡ out ++ out_of t
        prints_run (On s place o) more c h =
            ap output (c.leads 1) ∙ goes_output p c.state h.0 h.1 ∙ h.3 ∙ ap (λ x. x ++ o) c.printed_is
        prints_run (Ends o status) more c h = ap output (c.leads 1) ∙ ends_output p c.state (c.state.printed ++ o) status h ∙ ap (λ x. x ++ o) c.printed_is
        prints_run (TrapsBy trap) more c h =
            ap output (c.leads 1) ∙ fails_output p c.state c.state.printed (trap_number trap) c.state.place h ∙ c.printed_is ∙ sym (append-nil out)

        turn_ran : (r : Option Stop) → Answers turned m.waiting n written written' r
            → Ran p.word p m n left left' written written' ends ends' taken out turns 1 r
        turn_ran None a = record {
          bytes = bytes;
          printed = out_of turned;
          rest = n.waiting;
          made = 1;
          within = omega arith;
          all = refl;
          consumes = takes.consumes;
          prints = a.1;
          mark = takes.mark;
          run = (refl, (λ more f. let c = before bytes more takes.mark f in goes_on turned more c (turn_at more f c) a.0));
        }
        turn_ran (Some (Ended status)) a = record {
          bytes = bytes;
          printed = out_of turned;
          rest = [];
          made = 1;
          within = omega arith;
          all = tt;
          consumes = takes.consumes;
          prints = a.1;
          mark = takes.mark;
          run = (refl, (λ more f. let c = before bytes more takes.mark f in ends_run turned status more c (turn_at more f c) a.0));
        }
        turn_ran (Some WriteFault) a = record {
          bytes = bytes;
          printed = out_of turned;
          rest = a.0.0;
          made = 1;
          within = omega arith;
          all = tt;
          consumes = takes.consumes;
          prints = a.0.1;
          mark = takes.mark;
          run = λ more f. let c = before bytes more takes.mark f in prints_run turned more c (turn_at more f c);
        }
        turn_ran (Some Spent) a = absurd a
        turn_ran (Some ReadFault) a = absurd a
        turn_ran (Some (Trapped kind place)) a = absurd a

      nothing_taken : (more : List ℕ) → (taken ++ []) ++ more ≡ taken ++ more
      nothing_taken more = ap (λ t. t ++ more) (append-nil taken)

      meant_ran : (trap : Trap) → tested_on p.word (slice_get code m.place) m.place here ≡ Err trap → Prints written m.waiting written' [] []
          → Consumes left left' [] → MarkMoves m.reader.ended n.reader.ended ends ends' left left' []
          → Ran p.word p m n left left' written written' ends ends' taken out turns 1 (Some (Trapped (trap_number trap) m.place))
      meant_ran trap e h k i = record {
        bytes = [];
        printed = [];
        rest = [];
        made = 1;
        within = omega arith;
        all = tt;
        consumes = k;
        prints = h;
        mark = i;
        run = (
          refl,
          (λ more f. let c = before [] more i f in
              fails_at p c.state turns ((taken ++ []) ++ more) c.state.printed (trap_number trap) m.place (trap_comes trap more c.state e c.stands) c.leads
              ∙ ap (λ x. Failed x (TrappedBy (trap_number trap) m.place)) (c.printed_is ∙ sym (append-nil out))),
        );
      }

      lost_ran : (lost : List ℕ) → Prints written m.waiting written' lost [] → Consumes left left' [] → MarkMoves m.reader.ended n.reader.ended ends ends' left left' []
          → Ran p.word p m n left left' written written' ends ends' taken out turns 1 (Some WriteFault)
      lost_ran lost h k i = record {
        bytes = [];
        printed = [];
        rest = lost;
        made = 0;
        within = omega arith;
        all = tt;
        consumes = k;
        prints = h;
        mark = i;
        run = λ more f. let c = before [] more i f in
            ap output (goes_at p c.state turns ((taken ++ []) ++ more) c.leads) ∙ c.printed_is ∙ sym (append-nil out);
      }

      halt_ran : (writes writes' : ℕ) (trap : Trap) (r : Stop) → tested_on p.word (slice_get code m.place) m.place here ≡ Err trap
          → HaltIs written written' m.waiting writes writes' (Trapped (trap_number trap) m.place) r → Consumes left left' []
          → MarkMoves m.reader.ended n.reader.ended ends ends' left left' []
          → Ran p.word p m n left left' written written' ends ends' taken out turns 1 (Some r)
      halt_ran writes writes' trap r e (as_meant q h l) k i =
          subst (λ s. Ran p.word p m n left left' written written' ends ends' taken out turns 1 (Some s)) (sym q) (meant_ran trap e h k i)
      halt_ran writes writes' trap r e (by_write lost q h l) k i =
          subst (λ s. Ran p.word p m n left left' written written' ends ends' taken out turns 1 (Some s)) (sym q) (lost_ran lost h k i)

      fault_ran : (r : Stop) → takes_at (slice_get code m.place) ≡ true → FaultIs m.waiting written written' r → Consumes left left' []
          → MarkMoves m.reader.ended n.reader.ended ends ends' left left' []
          → Ran p.word p m n left left' written written' ends ends' taken out turns 1 (Some r)
      fault_ran ReadFault e h k i = record {
        bytes = [];
        printed = [];
        rest = [];
        made = 0;
        within = omega arith;
        all = tt;
        consumes = k;
        prints = h;
        mark = i;
        run = (
          refl,
          (λ more f. let c = before [] more i f in record {
            state = c.state;
            leads = λ j. let same : turns + 0 + j ≡ turns + j = omega arith in ap (λ q. run_by (turn p) shown q (start p ((taken ++ []) ++ more))) same ∙ c.leads j;
            printed_is = c.printed_is ∙ sym (append-nil out);
            takes = ap (λ q. takes_at (slice_get p.transfers q)) c.stands.place_is ∙ sym (takes_is m.place) ∙ e;
          }),
        );
      }
      fault_ran WriteFault e h k i = lost_ran h.0 h.1 k i
      fault_ran Spent e h k i = absurd h
      fault_ran (Ended status) e h k i = absurd h
      fault_ran (Trapped kind place) e h k i = absurd h

      step_ran : (writes writes' : ℕ) (r : Option Stop) → StepIs p.word (slice_get code m.place) m n left left' written written' ends ends' writes writes' r
          → Ran p.word p m n left left' written written' ends ends' taken out turns 1 r
      step_ran writes writes' r (by_turn t) = turn_ran t.given t.takes r t.answers
      step_ran writes writes' r (by_trap t) =
          subst (λ x. Ran p.word p m n left left' written written' ends ends' taken out turns 1 x) (sym t.result_is)
          (halt_ran writes writes' t.trap t.stop t.traps t.halts t.consumes t.mark)
      step_ran writes writes' r (by_fault t) =
          subst (λ x. Ran p.word p m n left left' written written' ends ends' taken out turns 1 x) (sym t.result_is)
          (fault_ran t.stop t.takes t.fault t.consumes t.mark)

-- a step is one turn of the run, for each program whose code this is
pub all_ran : (w : ℕ) (code : List (List Move)) (m n : Running) (left left' written written' : Option (List ℕ)) (ends ends' writes writes' : ℕ) (r : Option Stop)
    → length m.held.registers ≡ 64 → length m.held.flags ≡ 8
    → StepIs w (slice_get code m.place) m n left left' written written' ends ends' writes writes' r
    → AllRan w code m n left left' written written' ends ends' 1 r
all_ran w code m n left left' written written' ends ends' writes writes' r many eight h p is taken out turns runs =
    subst
    (λ x. All (IsMade x) p.transfers → StepIs x (slice_get code m.place) m n left left' written written' ends ends' writes writes' r → HasRun x p m taken out turns
    → Ran x p m n left left' written written' ends ends' taken out turns 1 r)
    is.word
    (λ a s k. step_ran p code a is.code_is m many eight n left left' written written' ends ends' taken out turns k writes writes' r s)
    is.made h runs
