-- What a step comes to, from what its parts come to.
use Rattle.std.proofs.Common.{◌≡◌, ℕ, suc, ◌+◌, ◌<◌, ◌≤◌, Bool, true, false, List, [], ◌++◌, length, slice_index_or, Option, Some, None, Result, Ok, Err, refl, sym, ap, ◌∙◌, subst, append-nil, arith, add-one}
use Rattle.std.proofs.lemmas.Option.{slice_get-get_or}
use Rattle.std.specs.Prelude.{slice_get}
use Rattle.vp_io.specs.Counts.{Rose}
use Rattle.rtl_tree.specs.Moves.{Move}
use Rattle.rtl_value.specs.declared.state.Trap.{Trap}
use Rattle.rtl_value.specs.declared.state.State.{State}
use Rattle.rtl_effect.specs.Effects.{takes}
use Rattle.machine_run.specs.Machine.{byte_out, trap_number}
use Rattle.machine_devices.specs.Devices.{Prints}
use Rattle.machine_turn.specs.declared.held.Held.{Held}
use Rattle.machine_turn.specs.declared.assigned.Outcome.{Outcome}
use Rattle.machine_turn.specs.Held.{state_of}
use Rattle.machine_turn.specs.Turn.{Made, made_by, made_of, memory_with, tested_by}
use Rattle.machine_effect.specs.Turns.{Turned, On, at_place, after_made, halted_by, turned_by, turn_on, takes_at}
use Rattle.machine_step.specs.declared.running.Running.{Running}
use Rattle.machine_step.specs.declared.running.Stop.{Stop}
use Rattle.machine_step.specs.declared.running.Stop.TheVariants.{Ended, Trapped, Spent, ReadFault, WriteFault}
use Rattle.machine_step.specs.Steps.{out_of, PrintsPart, Answers, HaltIs, as_meant, by_write, HasCauses, CausesOf, MarkMoves, Takes, tested_on, ByTurn, ByTrap, FaultIs, StepIs, by_turn, by_trap, by_fault, AloneIs, made_alone, trapped_alone}
use Rattle.machine_step.proofs.Joined.{IsStop}
use Rattle.machine_step.proofs.Bytes.{prints_then, marks_none, consumes_nothing}

pub rose_later : (a b c : ℕ) → a ≤ b → Rose b c → Rose a c
rose_later a b c l h = omega (arith, l, h)

pub rose_then : (a b c : ℕ) → Rose a b → b ≤ c → Rose a c
rose_then a b c h l = omega (arith, l, h)

pub after_stored : (h k : Held) (o : Outcome) → k.memory.items ≡ memory_with o.stored h.memory.items → k.registers ≡ h.registers → k.flags ≡ h.flags
    → k.next ≡ h.next → after_made (made_of h o) (state_of h) ≡ state_of k
after_stored h k o em er ef en = λ i. record {
  registers = sym er i;
  temps = [];
  flags = sym ef i;
  next_place = sym en i;
  memory = sym em i;
  input = None;
  symbols = [];
  labels = [];
}

-- what is made depends on memory and the next place alone
after_same : (d : Made) (h k : Held) → k.memory.items ≡ h.memory.items → k.next ≡ h.next → after_made d (state_of h) ≡ after_made d (state_of k)
after_same d h k em en = λ i. record {
  registers = d.registers;
  temps = [];
  flags = d.flags;
  next_place = sym en i;
  memory = memory_with d.outcome.stored (sym em i);
  input = None;
  symbols = [];
  labels = [];
}

halted_same : (status : Option ℕ) (d : Made) (h k : Held) → k.memory.items ≡ h.memory.items → k.next ≡ h.next
    → halted_by status d (state_of h) ≡ halted_by status d (state_of k)
halted_same None d h k em en = ap (λ s. On s d.outcome.place (byte_out d.outcome.printed)) (after_same d h k em en)
halted_same (Some status) d h k em en = refl

pub at_is : (place : ℕ) (h : Held) → h.next ≡ place + 1 → at_place place (state_of h) ≡ state_of h
at_is place h e = ap (λ n. record (state_of h) { next_place = n }) (sym (e ∙ add-one place))

out_is : (status : Option ℕ) (d : Made) (s : State) → out_of (halted_by status d s) ≡ byte_out d.outcome.printed
out_is None d s = refl
out_is (Some status) d s = refl

module _ (waited : List ℕ) (n : Running) (written written' : Option (List ℕ)) where
  pub settle_lost : (status : Option ℕ) (d : Made) (s : State) (r : Stop) → r ≡ WriteFault → n.stopped ≡ Some r
      → PrintsPart written waited written' (byte_out d.outcome.printed) → Answers (halted_by status d s) waited n written written' (Some r)
  settle_lost status d s r e st h =
      subst (λ x. Answers (halted_by status d s) waited n written written' (Some x)) (sym e)
      ((subst (λ o. PrintsPart written waited written' o) (sym (out_is status d s)) h), (st ∙ ap (λ x. Some x) e))

  ends_as : (middle : Option (List ℕ)) (q rest : List ℕ) (out : List ℕ) → Prints written waited middle q out → Prints middle q written' rest []
      → Prints written waited written' rest out
  ends_as middle q rest out h k =
      subst (λ o. Prints written waited written' rest o) (append-nil out) (prints_then written middle written' waited q rest out [] h k)

  pub settle_ends : (st : Option ℕ) (status : ℕ) (d : Made) (s : State) (middle : Option (List ℕ)) (q : List ℕ) (writes writes' : ℕ) (r : Stop) → st ≡ Some status
      → Prints written waited middle q (byte_out d.outcome.printed) → HaltIs middle written' q writes writes' (Ended status) r → n.stopped ≡ Some r
      → Answers (halted_by st d s) waited n written written' (Some r)
  settle_ends st status d s middle q writes writes' r e h (as_meant f k l) k' =
      subst (λ x. Answers (halted_by x d s) waited n written written' (Some r)) (sym e)
      (subst (λ x. Answers (halted_by (Some status) d s) waited n written written' (Some x)) (sym f)
      (refl, (ends_as middle q [] _ h k), (k' ∙ ap (λ x. Some x) f)))
  settle_ends st status d s middle q writes writes' r e h (by_write lost f k l) k' =
      subst (λ x. Answers (halted_by st d s) waited n written written' (Some x)) (sym f)
      ((lost, subst (λ o. Prints written waited written' lost o) (sym (out_is st d s)) (ends_as middle q lost _ h k)), (k' ∙ ap (λ x. Some x) f))

  pub settle_goes : (st : Option ℕ) (d : Made) (s : State) → st ≡ None → after_made d s ≡ state_of n.held → d.outcome.place ≡ n.place
      → Prints written waited written' n.waiting (byte_out d.outcome.printed) → n.stopped ≡ None → Answers (halted_by st d s) waited n written written' None
  settle_goes st d s e f g h k = subst (λ x. Answers (halted_by x d s) waited n written written' None) (sym e) ((f, g), h, k)

  -- a transfer that was made, beside what it was made on
  pub made_answers : (h k : Held) (o : Outcome) (made : Result Made Trap) (r : Option Stop) → made ≡ Ok (made_of k o) → k.memory ≡ h.memory → k.next ≡ h.next
      → Answers (halted_by o.status (made_of k o) (state_of k)) waited n written written' r → Answers (turned_by made (state_of h)) waited n written written' r
  made_answers h k o made r e em en a =
      subst (λ x. Answers (turned_by x (state_of h)) waited n written written' r) (sym e)
      (subst (λ t. Answers t waited n written written' r) (sym (halted_same o.status (made_of k o) h k (ap (λ v. v.items) em) en)) a)

-- what waits before a turn was written before it
pub answers_after : (t : Turned) (waited q : List ℕ) (n : Running) (written middle written' : Option (List ℕ)) (r : Option Stop)
    → Prints written waited middle q [] → Answers t q n middle written' r → Answers t waited n written written' r
answers_after t waited q n written middle written' None h a = (a.0, prints_then written middle written' waited q n.waiting [] (out_of t) h a.1, a.2)
answers_after t waited q n written middle written' (Some (Ended status)) h a = (a.0, prints_then written middle written' waited q [] [] (out_of t) h a.1, a.2)
answers_after t waited q n written middle written' (Some WriteFault) h a =
    ((a.0.0, prints_then written middle written' waited q a.0.0 [] (out_of t) h a.0.1), a.1)
answers_after t waited q n written middle written' (Some Spent) h a = absurd a
answers_after t waited q n written middle written' (Some ReadFault) h a = absurd a
answers_after t waited q n written middle written' (Some (Trapped kind place)) h a = absurd a

-- the answer tells why the machine stopped
pub answers_noted : (t : Turned) (waited : List ℕ) (n : Running) (written written' : Option (List ℕ)) (r : Option Stop) → Answers t waited n written written' r → n.stopped ≡ r
answers_noted t waited n written written' None a = a.2
answers_noted t waited n written written' (Some (Ended status)) a = a.2
answers_noted t waited n written written' (Some WriteFault) a = a.1
answers_noted t waited n written written' (Some Spent) a = absurd a
answers_noted t waited n written written' (Some ReadFault) a = absurd a
answers_noted t waited n written written' (Some (Trapped kind place)) a = absurd a

-- the turn of an instruction, where the next place is known already
pub turn_is : (w : ℕ) (ms : List Move) (given : Option ℕ) (place : ℕ) (h k : Held) → h.next ≡ place + 1 → k ≡ h
    → turned_by (made_by w given ms (state_of k)) (state_of k) ≡ turn_on w (Some ms) given place (state_of h)
turn_is w ms given place h k e f =
    ap (λ x. turned_by (made_by w given ms (state_of x)) (state_of x)) f ∙ ap (λ s. turned_by (made_by w given ms s) s) (sym (at_is place h e))

pub test_is : (w : ℕ) (ms : List Move) (place : ℕ) (h : Held) → h.next ≡ place + 1 → tested_by w ms (state_of h) ≡ tested_on w (Some ms) place (state_of h)
test_is w ms place h e = ap (λ s. tested_by w ms s) (sym (at_is place h e))

-- an instruction that takes no byte touches no source
takes_none : (b ended : Bool) (left : Option (List ℕ)) (ends : ℕ) → b ≡ false → Takes b left left ended ended ends ends None
takes_none true ended left ends e = absurd (let z : true ≡ false = e in cc)
takes_none false ended left ends e = record { consumes = consumes_nothing left; saw = tt; mark = marks_none ended ends left }

pub alone_step : (w : ℕ) (ms : List Move) (m n : Running) (left written written' : Option (List ℕ)) (ends writes writes' : ℕ) (r : Option Stop) → takes ms ≡ false
    → AloneIs w (Some ms) m n written written' writes writes' r → StepIs w (Some ms) m n left left written written' ends ends writes writes' r
alone_step w ms m n left written written' ends writes writes' r e (made_alone a q) = by_turn (record {
  given = None;
  takes = subst (λ x. Takes (takes ms) left left m.reader.ended x.ended ends ends None) (sym q) (takes_none (takes ms) m.reader.ended left ends e);
  answers = a;
})
alone_step w ms m n left written written' ends writes writes' r e (trapped_alone trap stop t h i j q) = by_trap (record {
  trap = trap;
  traps = t;
  stop = stop;
  halts = h;
  result_is = i;
  stopped = j;
  consumes = consumes_nothing left;
  mark = subst (λ x. MarkMoves m.reader.ended x.ended ends ends left left []) (sym q) (marks_none m.reader.ended ends left);
})

-- a trap before anything is taken
pub trap_step : (w : ℕ) (line : Option (List Move)) (m n : Running) (left written written' : Option (List ℕ)) (ends writes writes' : ℕ) (trap : Trap) (stop : Stop)
    → tested_on w line m.place (state_of m.held) ≡ Err trap → HaltIs written written' m.waiting writes writes' (Trapped (trap_number trap) m.place) stop
    → n.stopped ≡ Some stop → n.reader ≡ m.reader → StepIs w line m n left left written written' ends ends writes writes' (Some stop)
trap_step w line m n left written written' ends writes writes' trap stop t h j q = by_trap (record {
  trap = trap;
  traps = t;
  stop = stop;
  halts = h;
  result_is = refl;
  stopped = j;
  consumes = consumes_nothing left;
  mark = subst (λ x. MarkMoves m.reader.ended x.ended ends ends left left []) (sym q) (marks_none m.reader.ended ends left);
})

halted_causes : (written written' : Option (List ℕ)) (waited : List ℕ) (before writes writes' : ℕ) (stop r : Stop) → CausesOf 0 0 before writes' (Some stop)
    → before ≤ writes → writes ≤ writes' → HaltIs written written' waited writes writes' stop r → HasCauses 0 0 before writes' (Some r)
halted_causes written written' waited before writes writes' stop r c l k (as_meant e h g) = record {
  reads_later = omega arith;
  writes_later = omega (arith, l, k);
  cause = subst (λ x. CausesOf 0 0 before writes' (Some x)) (sym e) c;
}
halted_causes written written' waited before writes writes' stop r c l k (by_write lost e h g) = record {
  reads_later = omega arith;
  writes_later = omega (arith, l, k);
  cause = subst (λ x. CausesOf 0 0 before writes' (Some x)) (sym e) (rose_later before writes writes' l g);
}

pub ended_causes : (written written' : Option (List ℕ)) (waited : List ℕ) (before writes writes' : ℕ) (status : ℕ) (r : Stop)
    → before ≤ writes → writes ≤ writes' → HaltIs written written' waited writes writes' (Ended status) r → HasCauses 0 0 before writes' (Some r)
ended_causes written written' waited before writes writes' status r l k h = halted_causes written written' waited before writes writes' (Ended status) r tt l k h

pub trapped_causes : (written written' : Option (List ℕ)) (waited : List ℕ) (before writes writes' : ℕ) (kind place : ℕ) (r : Stop)
    → before ≤ writes → writes ≤ writes' → HaltIs written written' waited writes writes' (Trapped kind place) r → HasCauses 0 0 before writes' (Some r)
trapped_causes written written' waited before writes writes' kind place r l k h =
    halted_causes written written' waited before writes writes' (Trapped kind place) r tt l k h

-- what a call's faults have risen by, beside an earlier call of the same machine
pub causes_later : (reads reads' reads'' writes writes' writes'' : ℕ) (r : Option Stop) → reads ≤ reads' → writes ≤ writes'
    → HasCauses reads' reads'' writes' writes'' r → HasCauses reads reads'' writes writes'' r
causes_later reads reads' reads'' writes writes' writes'' (Some ReadFault) l k h = record {
  reads_later = omega (arith, l, h.reads_later);
  writes_later = omega (arith, k, h.writes_later);
  cause = rose_later reads reads' reads'' l h.cause;
}
causes_later reads reads' reads'' writes writes' writes'' (Some WriteFault) l k h = record {
  reads_later = omega (arith, l, h.reads_later);
  writes_later = omega (arith, k, h.writes_later);
  cause = rose_later writes writes' writes'' k h.cause;
}
causes_later reads reads' reads'' writes writes' writes'' (Some Spent) l k h = record {
  reads_later = omega (arith, l, h.reads_later);
  writes_later = omega (arith, k, h.writes_later);
  cause = tt;
}
causes_later reads reads' reads'' writes writes' writes'' (Some (Ended status)) l k h = record {
  reads_later = omega (arith, l, h.reads_later);
  writes_later = omega (arith, k, h.writes_later);
  cause = tt;
}
causes_later reads reads' reads'' writes writes' writes'' (Some (Trapped kind place)) l k h = record {
  reads_later = omega (arith, l, h.reads_later);
  writes_later = omega (arith, k, h.writes_later);
  cause = tt;
}
causes_later reads reads' reads'' writes writes' writes'' None l k h = record {
  reads_later = omega (arith, l, h.reads_later);
  writes_later = omega (arith, k, h.writes_later);
  cause = tt;
}

-- a call without a source, beside one that read of it
pub causes_with : (reads reads' writes writes' writes'' : ℕ) (r : Option Stop) → reads ≤ reads' → writes ≤ writes' → HasCauses 0 0 writes' writes'' r
    → HasCauses reads reads' writes writes'' r
causes_with reads reads' writes writes' writes'' (Some ReadFault) l k h =
    let none : ⊥ = (let c : Rose 0 0 = h.cause in omega (arith, c)) in absurd none
causes_with reads reads' writes writes' writes'' (Some WriteFault) l k h = record {
  reads_later = l;
  writes_later = omega (arith, k, h.writes_later);
  cause = rose_later writes writes' writes'' k h.cause;
}
causes_with reads reads' writes writes' writes'' (Some Spent) l k h = record { reads_later = l; writes_later = omega (arith, k, h.writes_later); cause = tt }
causes_with reads reads' writes writes' writes'' (Some (Ended status)) l k h = record { reads_later = l; writes_later = omega (arith, k, h.writes_later); cause = tt }
causes_with reads reads' writes writes' writes'' (Some (Trapped kind place)) l k h = record { reads_later = l; writes_later = omega (arith, k, h.writes_later); cause = tt }
causes_with reads reads' writes writes' writes'' None l k h = record { reads_later = l; writes_later = omega (arith, k, h.writes_later); cause = tt }

-- the step tells why the machine stopped
pub step_noted : (w : ℕ) (line : Option (List Move)) (m n : Running) (left left' written written' : Option (List ℕ)) (ends ends' writes writes' : ℕ) (r : Option Stop)
    → StepIs w line m n left left' written written' ends ends' writes writes' r → n.stopped ≡ r
step_noted w line m n left left' written written' ends ends' writes writes' r (by_turn t) =
    answers_noted (turn_on w line t.given m.place (state_of m.held)) m.waiting n written written' r t.answers
step_noted w line m n left left' written written' ends ends' writes writes' r (by_trap t) = t.stopped ∙ sym t.result_is
step_noted w line m n left left' written written' ends ends' writes writes' r (by_fault t) = t.stopped ∙ sym t.result_is

-- a byte was taken, and the turn was made
pub taken_step : (w : ℕ) (ms : List Move) (m b n : Running) (left left' written middle written' : Option (List ℕ)) (ends ends' writes writes' : ℕ) (given : Option ℕ)
    (r : Option Stop) → takes ms ≡ true → m.held.next ≡ m.place + 1 → b.held ≡ m.held → n.reader ≡ b.reader
    → Takes true left left' m.reader.ended b.reader.ended ends ends' given → Prints written m.waiting middle b.waiting []
    → Answers (turned_by (made_by w given ms (state_of b.held)) (state_of b.held)) b.waiting n middle written' r
    → StepIs w (Some ms) m n left left' written written' ends ends' writes writes' r
taken_step w ms m b n left left' written middle written' ends ends' writes writes' given r e next held reader t p a = by_turn (record {
  given = given;
  takes =
      subst (λ x. Takes x left left' m.reader.ended n.reader.ended ends ends' given) (sym e)
      (subst (λ x. Takes true left left' m.reader.ended x.ended ends ends' given) (sym reader) t);
  answers =
      answers_after (turn_on w (Some ms) given m.place (state_of m.held)) m.waiting b.waiting n written middle written' r p
      (subst (λ x. Answers x b.waiting n middle written' r) (turn_is w ms given m.place m.held b.held next held) a);
})

-- the next place is known before the instruction is made
next_step : (w : ℕ) (ms : List Move) (m n : Running) (k : ℕ) (left left' written written' : Option (List ℕ)) (ends ends' writes writes' : ℕ) (r : Option Stop)
    → StepIs w (Some ms) (record m { held = record m.held { next = k } }) n left left' written written' ends ends' writes writes' r
    → StepIs w (Some ms) m n left left' written written' ends ends' writes writes' r
next_step w ms m n k left left' written written' ends ends' writes writes' r (by_turn t) =
    by_turn (record { given = t.given; takes = t.takes; answers = t.answers })
next_step w ms m n k left left' written written' ends ends' writes writes' r (by_trap t) =
    by_trap (record {
      trap = t.trap;
      traps = t.traps;
      stop = t.stop;
      halts = t.halts;
      result_is = t.result_is;
      stopped = t.stopped;
      consumes = t.consumes;
      mark = t.mark;
    })
next_step w ms m n k left left' written written' ends ends' writes writes' r (by_fault t) =
    by_fault (record {
      takes = t.takes;
      stop = t.stop;
      fault = t.fault;
      result_is = t.result_is;
      stopped = t.stopped;
      consumes = t.consumes;
      mark = t.mark;
    })

-- the instruction is that of the code
pub line_step : (w : ℕ) (code : List (List Move)) (ms line : List Move) (m n : Running) (k : ℕ) (left left' written written' : Option (List ℕ))
    (ends ends' writes writes' : ℕ) (r : Option Stop) → m.place < length code → ms ≡ line → line ≡ slice_index_or code m.place line
    → StepIs w (Some ms) (record m { held = record m.held { next = k } }) n left left' written written' ends ends' writes writes' r
    → StepIs w (slice_get code m.place) m n left left' written written' ends ends' writes writes' r
line_step w code ms line m n k left left' written written' ends ends' writes writes' r l e f h =
    subst (λ o. StepIs w o m n left left' written written' ends ends' writes writes' r)
    (ap (λ x. Some x) (e ∙ f) ∙ sym (slice_get-get_or code m.place line l))
    (next_step w ms m n k left left' written written' ends ends' writes writes' r h)

abbrev stop_of : Stop → Option Stop → Stop
stop_of d (Some s) = s
stop_of d None = d

answers_stop : (t : Turned) (waited : List ℕ) (n : Running) (written written' : Option (List ℕ)) (s : Stop) → Answers t waited n written written' (Some s) → IsStop s
answers_stop t waited n written written' Spent a = absurd a
answers_stop t waited n written written' (Ended status) a = tt
answers_stop t waited n written written' (Trapped kind place) a = tt
answers_stop t waited n written written' ReadFault a = tt
answers_stop t waited n written written' WriteFault a = tt

halts_stop : (written written' : Option (List ℕ)) (waited : List ℕ) (writes writes' kind place : ℕ) (s : Stop)
    → HaltIs written written' waited writes writes' (Trapped kind place) s → IsStop s
halts_stop written written' waited writes writes' kind place s (as_meant e h l) = subst IsStop (sym e) tt
halts_stop written written' waited writes writes' kind place s (by_write lost e h l) = subst IsStop (sym e) tt

fault_stop : (waited : List ℕ) (written written' : Option (List ℕ)) (s : Stop) → FaultIs waited written written' s → IsStop s
fault_stop waited written written' Spent h = absurd h
fault_stop waited written written' (Ended status) h = tt
fault_stop waited written written' (Trapped kind place) h = tt
fault_stop waited written written' ReadFault h = tt
fault_stop waited written written' WriteFault h = tt

-- a step is never spent
pub step_stops : (w : ℕ) (line : Option (List Move)) (m n : Running) (left left' written written' : Option (List ℕ)) (ends ends' writes writes' : ℕ) (s : Stop)
    → StepIs w line m n left left' written written' ends ends' writes writes' (Some s) → IsStop s
step_stops w line m n left left' written written' ends ends' writes writes' s (by_turn t) =
    answers_stop (turn_on w line t.given m.place (state_of m.held)) m.waiting n written written' s t.answers
step_stops w line m n left left' written written' ends ends' writes writes' s (by_trap t) =
    subst IsStop (ap (stop_of s) (sym t.result_is)) (halts_stop written written' m.waiting writes writes' (trap_number t.trap) m.place t.stop t.halts)
step_stops w line m n left left' written written' ends ends' writes writes' s (by_fault t) =
    subst IsStop (ap (stop_of s) (sym t.result_is)) (fault_stop m.waiting written written' t.stop t.fault)
