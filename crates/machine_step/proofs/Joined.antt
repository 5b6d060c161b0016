-- Calls in turn.
use Rattle.std.proofs.Common.{◌≡◌, ℕ, ◌+◌, ◌≤◌, Bool, true, false, List, [], ◌++◌, Option, Some, None, refl, sym, ap, ◌∙◌, subst, append_assoc, append-nil, arith}
use Rattle.std.specs.Io.KnownBytes.{Appends}
use Rattle.vp_io.specs.Contents.{AppendsPart}
use Rattle.behaviour.specs.Behaviour.{output}
use Rattle.rtl_tree.specs.Moves.{Move}
use Rattle.machine_run.specs.Machine.{Code, machine_run}
use Rattle.machine_devices.specs.Devices.{Prints}
use Rattle.machine_step.specs.declared.running.Running.{Running}
use Rattle.machine_step.specs.declared.running.Stop.{Stop}
use Rattle.machine_step.specs.declared.running.Stop.TheVariants.{Ended, Trapped, Spent, ReadFault, WriteFault}
use Rattle.machine_step.specs.Steps.{HasCauses, CausesOf, StepIs, ByTurn, by_turn, by_trap, by_fault, Answers}
use Rattle.machine_step.specs.Runs.{IsCodeOf, HasRun, MayFollow, RunIs, MadeAll, Ran, AllRan}
use Rattle.machine_step.proofs.Bytes.{consumes_nothing, consumes_then, prints_nothing, prints_then, prints_waiting, prints_part_waiting, marks_none, marks_then}
use Rattle.machine_step.proofs.Whole.{goes_at}

run_moved : (w : ℕ) (p : Code) (n : Running) (rest : List ℕ) (r : Option Stop) (t u o q : List ℕ) (k j : ℕ) → t ≡ u → o ≡ q → k ≡ j → RunIs w p n t o k rest r → RunIs w p n u q j rest r
run_moved w p n rest r t u o q k j e f g h =
    subst (λ x. RunIs w p n u q x rest r) g (subst (λ x. RunIs w p n u x k rest r) f (subst (λ x. RunIs w p n x o k rest r) e h))

made_more : (r : Option Stop) (f g k j : ℕ) → f ≡ k → MadeAll r g j → MadeAll r (f + g) (k + j)
made_more None f g k j e h = omega (arith, e, h)
made_more (Some Spent) f g k j e h = omega (arith, e, h)
made_more (Some (Ended status)) f g k j e h = tt
made_more (Some (Trapped kind place)) f g k j e h = tt
made_more (Some ReadFault) f g k j e h = tt
made_more (Some WriteFault) f g k j e h = tt

-- a call of a machine that went on for k turns
pub ran_then : (w : ℕ) (code : List (List Move)) (p : Code) (m b n : Running) (left left' left'' written written' written'' : Option (List ℕ)) (ends ends' ends'' : ℕ)
    (taken out : List ℕ) (turns k j : ℕ) (r : Option Stop) → IsCodeOf w p code
    → Ran w p m b left left' written written' ends ends' taken out turns k None
    → AllRan w code b n left' left'' written' written'' ends' ends'' j r
    → Ran w p m n left left'' written written'' ends ends'' taken out turns (k + j) r
ran_then w code p m b n left left' left'' written written' written'' ends ends' ends'' taken out turns k j r is f all =
    let g = all p is (taken ++ f.bytes) (out ++ f.printed) (turns + f.made) f.run.1 in
    record {
      bytes = f.bytes ++ g.bytes;
      printed = f.printed ++ g.printed;
      rest = g.rest;
      made = f.made + g.made;
      within = omega (arith, f.within, g.within);
      all = made_more r f.made g.made k j f.all g.all;
      consumes = consumes_then left left' left'' f.bytes g.bytes f.consumes g.consumes;
      prints =
          prints_then written written' written'' m.waiting b.waiting g.rest f.printed g.printed
          (subst (λ x. Prints written m.waiting written' x f.printed) f.run.0 f.prints) g.prints;
      mark = marks_then m.reader.ended b.reader.ended n.reader.ended ends ends' ends'' left left' left'' f.bytes g.bytes f.mark g.mark;
      run =
          run_moved w p n g.rest r _ _ _ _ _ _ (append_assoc taken f.bytes g.bytes) (append_assoc out f.printed g.printed)
          (let sum : turns + f.made + g.made ≡ turns + (f.made + g.made) = omega arith in sum) g.run;
    }

no_turn : (w : ℕ) (p : Code) (n : Running) (taken out : List ℕ) (turns : ℕ) → HasRun w p n taken out turns → HasRun w p n (taken ++ []) (out ++ []) (turns + 0)
no_turn w p n taken out turns h =
    let same : turns ≡ turns + 0 = omega arith in
    subst (λ k. HasRun w p n (taken ++ []) (out ++ []) k) same
    (subst (λ o. HasRun w p n (taken ++ []) o turns) (sym (append-nil out)) (subst (λ t. HasRun w p n t out turns) (sym (append-nil taken)) h))

-- what waits, and why the machine stopped, is no part of where the run has come
noted_run : (w : ℕ) (p : Code) (m : Running) (waiting : List ℕ) (stopped : Option Stop) (taken out : List ℕ) (turns : ℕ) → HasRun w p m taken out turns
    → HasRun w p (record m { waiting = waiting; stopped = stopped }) taken out turns
noted_run w p m waiting stopped taken out turns h more f =
    let c = h more f in record { state = c.state; leads = c.leads; stands = c.stands; printed_is = c.printed_is }

-- before a turn is made
pub none_ran : (w : ℕ) (code : List (List Move)) (m : Running) (left written : Option (List ℕ)) (ends : ℕ) → AllRan w code m m left left written written ends ends 0 None
none_ran w code m left written ends p is taken out turns h = record {
  bytes = [];
  printed = [];
  rest = m.waiting;
  made = 0;
  within = omega arith;
  all = refl;
  consumes = consumes_nothing left;
  prints = prints_nothing written m.waiting;
  mark = marks_none m.reader.ended ends left;
  run = (refl, no_turn w p m taken out turns h);
}

-- all turns were made, and what waited was written
pub spent_ran : (w : ℕ) (code : List (List Move)) (m : Running) (waiting : List ℕ) (left written written' : Option (List ℕ)) (ends : ℕ) → waiting ≡ []
    → Appends written written' m.waiting → AllRan w code m (record m { waiting = waiting; stopped = m.stopped }) left left written written' ends ends 0 (Some Spent)
spent_ran w code m waiting left written written' ends e a p is taken out turns h = record {
  bytes = [];
  printed = [];
  rest = [];
  made = 0;
  within = omega arith;
  all = refl;
  consumes = consumes_nothing left;
  prints = prints_waiting written written' m.waiting a;
  mark = marks_none m.reader.ended ends left;
  run = (refl, e, noted_run w p m waiting m.stopped (taken ++ []) (out ++ []) (turns + 0) (no_turn w p m taken out turns h));
}

-- all turns were made, and the write failed
pub lost_ran : (w : ℕ) (code : List (List Move)) (m : Running) (waiting : List ℕ) (stopped : Option Stop) (left written written' : Option (List ℕ)) (ends : ℕ)
    → AppendsPart written written' m.waiting
    → AllRan w code m (record m { waiting = waiting; stopped = stopped }) left left written written' ends ends 0 (Some WriteFault)
lost_ran w code m waiting stopped left written written' ends a p is taken out turns h =
    let part = prints_part_waiting written written' m.waiting a in
    let h' : HasRun w p m (taken ++ []) out turns = subst (λ t. HasRun w p m t out turns) (sym (append-nil taken)) h in
    record {
      bytes = [];
      printed = [];
      rest = part.0;
      made = 0;
      within = omega arith;
      all = tt;
      consumes = consumes_nothing left;
      prints = part.1;
      mark = marks_none m.reader.ended ends left;
      run = λ more f.
          let c = h' more f in ap output (goes_at p c.state turns ((taken ++ []) ++ more) c.leads) ∙ c.printed_is ∙ sym (append-nil out);
    }

abbrev pub IsStop : Stop → Type 0
IsStop Spent = ⊥
IsStop _ = Unit {0}

-- a call that stops has made as many turns as it may, or fewer
pub ran_within : (w : ℕ) (p : Code) (m n : Running) (left left' written written' : Option (List ℕ)) (ends ends' : ℕ) (taken out : List ℕ) (turns k steps : ℕ) (s : Stop)
    → IsStop s → k ≤ steps → Ran w p m n left left' written written' ends ends' taken out turns k (Some s)
    → Ran w p m n left left' written written' ends ends' taken out turns steps (Some s)
ran_within w p m n left left' written written' ends ends' taken out turns k steps Spent i l f = absurd i
ran_within w p m n left left' written written' ends ends' taken out turns k steps (Ended status) i l f = record {
  bytes = f.bytes;
  printed = f.printed;
  rest = f.rest;
  made = f.made;
  within = omega (arith, f.within, l);
  all = tt;
  consumes = f.consumes;
  prints = f.prints;
  mark = f.mark;
  run = f.run;
}
ran_within w p m n left left' written written' ends ends' taken out turns k steps (Trapped kind place) i l f = record {
  bytes = f.bytes;
  printed = f.printed;
  rest = f.rest;
  made = f.made;
  within = omega (arith, f.within, l);
  all = tt;
  consumes = f.consumes;
  prints = f.prints;
  mark = f.mark;
  run = f.run;
}
ran_within w p m n left left' written written' ends ends' taken out turns k steps ReadFault i l f = record {
  bytes = f.bytes;
  printed = f.printed;
  rest = f.rest;
  made = f.made;
  within = omega (arith, f.within, l);
  all = tt;
  consumes = f.consumes;
  prints = f.prints;
  mark = f.mark;
  run = f.run;
}
ran_within w p m n left left' written written' ends ends' taken out turns k steps WriteFault i l f = record {
  bytes = f.bytes;
  printed = f.printed;
  rest = f.rest;
  made = f.made;
  within = omega (arith, f.within, l);
  all = tt;
  consumes = f.consumes;
  prints = f.prints;
  mark = f.mark;
  run = f.run;
}
