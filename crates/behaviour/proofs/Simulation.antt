-- A machine that simulates another does the same.
use Rattle.std.proofs.Common.{◌≡◌, ℕ, zero, suc, ◌+◌, List, refl, sym, ap, ◌∙◌, arith}
use Rattle.behaviour.specs.Behaviour.{Running, Ended}
use Rattle.behaviour.specs.Run.{NeverFails, Same, AreBytes, Keep, Reach, both_run, both_end}
use Rattle.behaviour.specs.Steps.{Move, Goes, Stops, Fails, Machine, OnlyPrints, run, Leads, Comes, Diagram, both_lead, both_stop, source_fails, Simulates, MovesAlike, Lockstep}
use Rattle.behaviour.proofs.Reaching.{reach_same}
use Rattle.behaviour.proofs.Sameness.{keep_of_same, same_trans, target_never_fails}
use Rattle.behaviour.proofs.Stepping.{run_is_run, leads_one, stops_one, fails_one, comes_same_back}

module _ (M N : Machine) (R : M.State → N.State → Type 0) (sim : Simulates M N R) where
  lead_reach : (i : ℕ) (s s' : M.State) (t t' : N.State) → Leads M s s' → Leads N t t' → Reach i (run M s') (run N t') → Reach (suc i) (run M s) (run N t)
  lead_reach i s s' t t' x y (both_run n m out a b e f) =
      both_run (x.steps + n) (y.steps + m) out (omega (arith, x.some, a)) (omega (arith, y.some, b)) (x.by n ∙ e) (y.by m ∙ f)
  lead_reach i s s' t t' x y (both_end n m out status e f) = both_end (x.steps + n) (y.steps + m) out status (x.by n ∙ e) (y.by m ∙ f)

  simulation_reach : (i : ℕ) (s : M.State) (t : N.State) → R s t → NeverFails (run M s) → Reach i (run M s) (run N t)
  simulation_reach zero s t r never = both_run 0 0 (M.printed s) (omega arith) (omega arith) refl (ap Running (sym (sim.same_output s t r)))
  simulation_reach (suc i) s t r never = elim (sim.diagrams s t r) as (λ _. Reach (suc i) (run M s) (run N t)) [
    | both_lead s' t' x y r' ↦ lead_reach i s s' t t' x y (simulation_reach i s' t' r' (record { at = λ n out why e. never.at (x.steps + n) out why (x.by n ∙ e) }))
    | both_stop n m out status e f ↦ both_end n m out status e f
    | source_fails n out why e ↦ absurd (never.at n out why e)
  ]

  module _ (only_M : OnlyPrints M.step M.printed) (only_N : OnlyPrints N.step N.printed) where
    pub simulation_same : (s : M.State) (t : N.State) → R s t → NeverFails (run M s) → Same (run M s) (run N t)
    simulation_same s t r never = reach_same _ _ (run_is_run M only_M s) (run_is_run N only_N t) (λ i. simulation_reach i s t r never)

    -- programs that start in related states
    pub simulation_keep : (start : List ℕ → M.State) (start' : List ℕ → N.State) → ((input : List ℕ) → AreBytes input → R (start input) (start' input)) → Keep (λ input. run N (start' input)) (λ input. run M (start input))
    simulation_keep start start' related = keep_of_same _ _ (λ input bytes. simulation_same (start input) (start' input) (related input bytes))

    -- the target first goes some steps
    pub simulation_keep_after : (start : List ℕ → M.State) (start' begun : List ℕ → N.State) → ((input : List ℕ) → Comes N (start' input) (begun input))
        → ((input : List ℕ) → AreBytes input → R (start input) (begun input)) → Keep (λ input. run N (start' input)) (λ input. run M (start input))
    simulation_keep_after start start' begun comes related = keep_of_same _ _ (λ input bytes never.
        let same = simulation_same (start input) (begun input) (related input bytes) never in
        same_trans _ _ _ same (comes_same_back N only_N (start' input) (begun input) (comes input) (target_never_fails _ _ same)))

module _ (M N : Machine) (R : M.State → N.State → Type 0) where
  lockstep_diagram : (s : M.State) (t : N.State) (x : Move M.State) (y : Move N.State) → M.step s ≡ x → N.step t ≡ y → MovesAlike R x y → Diagram M N R s t
  lockstep_diagram s t (Goes s') (Goes t') e f r = both_lead s' t' (leads_one M s s' e) (leads_one N t t' f) r
  lockstep_diagram s t (Goes s') (Stops out status) e f r = absurd r
  lockstep_diagram s t (Goes s') (Fails out why) e f r = absurd r
  lockstep_diagram s t (Stops out status) (Goes t') e f r = absurd r
  lockstep_diagram s t (Stops out status) (Stops out' status') e f r =
      both_stop 1 1 out status (stops_one M s out status e) (stops_one N t out' status' f ∙ ap (λ o. Ended o status') (sym r.0) ∙ ap (Ended out) (sym r.1))
  lockstep_diagram s t (Stops out status) (Fails out' why) e f r = absurd r
  lockstep_diagram s t (Fails out why) y e f r = source_fails 1 out why (fails_one M s out why e)

  pub lockstep_simulates : Lockstep M N R → Simulates M N R
  lockstep_simulates lock = record {
    same_output = lock.same_output;
    diagrams = λ s t r. lockstep_diagram s t (M.step s) (N.step t) refl refl (lock.moves s t r);
  }
