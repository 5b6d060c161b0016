-- Runs of machines, step by step.
use Rattle.std.proofs.Common.{◌≡◌, ℕ, zero, suc, ◌+◌, ◌≤◌, List, refl, ap, ◌∙◌, arith}
use Rattle.behaviour.specs.Behaviour.{Wrong, Behaviour, Running, Ended, Failed, output, IsPrefix, IsExtendedBy}
use Rattle.behaviour.specs.Run.{IsRun, NeverFails, Same, IsFollowedBy, both_run, both_end, Reach}
use Rattle.behaviour.specs.Steps.{Move, Goes, Stops, Fails, Machine, after, run_by, printed_after, OnlyPrints, run, Leads, Comes}
use Rattle.behaviour.proofs.Prefix.{prefix_refl, prefix_trans}
use Rattle.behaviour.proofs.Reaching.{reach_same, reach_swap}

module _ {S : Type 0} (step : S → Move S) (printed : S → List ℕ) (only : OnlyPrints step printed) where
  -- a further bound after one step
  after_extends : (x : Move S) (f g : S → Behaviour) → ((t : S) → x ≡ Goes t → IsExtendedBy (f t) (g t)) → IsExtendedBy (after x f) (after x g)
  after_extends (Goes t) f g each = each t refl
  after_extends (Stops out status) f g each = refl
  after_extends (Fails out why) f g each = refl

  after_grows : (out : List ℕ) (x : Move S) (f : S → Behaviour) → IsPrefix out (printed_after printed x) → ((t : S) → IsPrefix (printed t) (output (f t))) → IsPrefix out (output (after x f))
  after_grows out (Goes t) f here each = prefix_trans _ _ _ here (each t)
  after_grows out (Stops out' status) f here each = here
  after_grows out (Fails out' why) f here each = here

  run_by_grows : (m : ℕ) (s : S) → IsPrefix (printed s) (output (run_by step printed m s))
  run_by_grows zero s = prefix_refl _
  run_by_grows (suc m) s = after_grows (printed s) (step s) (run_by step printed m) (only.at s) (run_by_grows m)

  run_by_extends : (n m : ℕ) → n ≤ m → (s : S) → IsExtendedBy (run_by step printed n s) (run_by step printed m s)
  run_by_extends zero m le s = run_by_grows m s
  run_by_extends (suc n) zero le s = absurd (omega (arith, le))
  run_by_extends (suc n) (suc m) le s = after_extends (step s) (run_by step printed n) (run_by step printed m) (λ t e. run_by_extends n m (omega (arith, le)) t)

  pub run_by_is_run : (s : S) → IsRun (λ n. run_by step printed n s)
  run_by_is_run s = record { extends = λ n m le. run_by_extends n m le s }

module _ (M : Machine) where
  pub run_is_run : OnlyPrints M.step M.printed → (s : M.State) → IsRun (run M s)
  run_is_run only s = run_by_is_run M.step M.printed only s

  pub leads_one : (s t : M.State) → M.step s ≡ Goes t → Leads M s t
  leads_one s t e = record {
    steps = 1;
    some = omega arith;
    by = λ k. let n : 1 + k ≡ suc k = omega arith in ap (run M s) n ∙ ap (λ x. after x (run_by M.step M.printed k)) e;
  }

  pub leads_comes : (s t : M.State) → Leads M s t → Comes M s t
  leads_comes s t leads = record { steps = leads.steps; by = leads.by }

  pub comes_one : (s t : M.State) → M.step s ≡ Goes t → Comes M s t
  comes_one s t e = leads_comes s t (leads_one s t e)

  pub comes_refl : (s : M.State) → Comes M s s
  comes_refl s = record { steps = 0; by = λ k. let n : 0 + k ≡ k = omega arith in ap (run M s) n }

  joined : (a b k : ℕ) (s t u : M.State) → ((j : ℕ) → run M s (a + j) ≡ run M t j) → run M t (b + k) ≡ run M u k → run M s (a + b + k) ≡ run M u k
  joined a b k s t u first second = let n : a + b + k ≡ a + (b + k) = omega arith in ap (run M s) n ∙ first (b + k) ∙ second

  pub comes_trans : (s t u : M.State) → Comes M s t → Comes M t u → Comes M s u
  comes_trans s t u x y = record { steps = x.steps + y.steps; by = λ k. joined x.steps y.steps k s t u x.by (y.by k) }

  pub leads_trans : (s t u : M.State) → Leads M s t → Leads M t u → Leads M s u
  leads_trans s t u x y = record { steps = x.steps + y.steps; some = omega (arith, x.some); by = λ k. joined x.steps y.steps k s t u x.by (y.by k) }

  pub leads_then_comes : (s t u : M.State) → Leads M s t → Comes M t u → Leads M s u
  leads_then_comes s t u x y = record { steps = x.steps + y.steps; some = omega (arith, x.some); by = λ k. joined x.steps y.steps k s t u x.by (y.by k) }

  pub comes_then_leads : (s t u : M.State) → Comes M s t → Leads M t u → Leads M s u
  comes_then_leads s t u x y = record { steps = x.steps + y.steps; some = omega (arith, y.some); by = λ k. joined x.steps y.steps k s t u x.by (y.by k) }

  -- a step that stops or fails, after some steps
  pub stops_one : (s : M.State) (out : List ℕ) (status : ℕ) → M.step s ≡ Stops out status → run M s 1 ≡ Ended out status
  stops_one s out status e = ap (λ x. after x (run_by M.step M.printed 0)) e

  pub fails_one : (s : M.State) (out : List ℕ) (why : Wrong) → M.step s ≡ Fails out why → run M s 1 ≡ Failed out why
  fails_one s out why e = ap (λ x. after x (run_by M.step M.printed 0)) e

  pub comes_then_ends : (s t : M.State) (out : List ℕ) (status : ℕ) → Comes M s t → M.step t ≡ Stops out status → (n : ℕ) × (run M s n ≡ Ended out status)
  comes_then_ends s t out status x e = (x.steps + 1, x.by 1 ∙ stops_one t out status e)

  pub comes_then_fails : (s t : M.State) (out : List ℕ) (why : Wrong) → Comes M s t → M.step t ≡ Fails out why → (n : ℕ) × (run M s n ≡ Failed out why)
  comes_then_fails s t out why x e = (x.steps + 1, x.by 1 ∙ fails_one t out why e)

  -- a run follows from s what it follows from a state that s comes to
  pub comes_followed : (n : ℕ) (seen : Behaviour) (s t : M.State) → Comes M s t → IsFollowedBy n seen (run M t) → IsFollowedBy n seen (run M s)
  comes_followed n (Running out) s t x (m, far, e) = (x.steps + m, omega (arith, far), x.by m ∙ e)
  comes_followed n (Ended out status) s t x (m, e) = (x.steps + m, x.by m ∙ e)
  comes_followed n (Failed out why) s t x followed = tt

  -- steps that count for a turn of what is followed
  pub leads_followed : (n : ℕ) (seen : Behaviour) (s t : M.State) → Leads M s t → IsFollowedBy n seen (run M t) → IsFollowedBy (suc n) seen (run M s)
  leads_followed n (Running out) s t x (m, far, e) = (x.steps + m, omega (arith, x.some, far), x.by m ∙ e)
  leads_followed n (Ended out status) s t x (m, e) = (x.steps + m, x.by m ∙ e)
  leads_followed n (Failed out why) s t x followed = tt

  never_fails_on : (s t : M.State) → Comes M s t → NeverFails (run M s) → NeverFails (run M t)
  never_fails_on s t x never = record { at = λ n out why e. never.at (x.steps + n) out why (x.by n ∙ e) }

  comes_reach : (s t : M.State) → Comes M s t → NeverFails (run M t) → (bound : ℕ) (seen : Behaviour) → run M t bound ≡ seen → Reach bound (run M s) (run M t)
  comes_reach s t x never bound (Running out) e = both_run (x.steps + bound) bound out (omega arith) (omega arith) (x.by bound ∙ e) e
  comes_reach s t x never bound (Ended out status) e = both_end (x.steps + bound) bound out status (x.by bound ∙ e) e
  comes_reach s t x never bound (Failed out why) e = absurd (never.at bound out why e)

  -- a run is the same as what is left of it after some steps
  module _ (only : OnlyPrints M.step M.printed) where
    pub comes_same : (s t : M.State) → Comes M s t → NeverFails (run M s) → Same (run M s) (run M t)
    comes_same s t x never = reach_same _ _ (run_is_run only s) (run_is_run only t) (λ i. comes_reach s t x (never_fails_on s t x never) i (run M t i) refl)

    pub comes_same_back : (s t : M.State) → Comes M s t → NeverFails (run M t) → Same (run M t) (run M s)
    comes_same_back s t x never = reach_same _ _ (run_is_run only t) (run_is_run only s) (λ i. reach_swap _ _ i (comes_reach s t x never i (run M t i) refl))
