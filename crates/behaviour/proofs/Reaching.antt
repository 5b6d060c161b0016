-- Runs that come as far as any bound with the same output are the same.
use Rattle.std.proofs.Common.{◌≡◌, ◌≢◌, ℕ, ◌≤◌, List, refl, sym, ap, ◌∙◌, subst, arith, inl, inr}
use Rattle.behaviour.specs.Behaviour.{Wrong, Behaviour, Running, Ended, Failed, output, IsPrefix}
use Rattle.behaviour.specs.Run.{Run, IsRun, NeverFails, Reach, both_run, both_end, IsFollowedBy}
use Rattle.behaviour.specs.Laws.{ReachIsSame, FollowedIsSame, EndedIsSame}
use Rattle.behaviour.proofs.Prefix.{prefix_refl}
use Rattle.behaviour.proofs.Growth.{running_not_ended, running_not_failed, ended_not_failed, either, output_grows, end_stands, failure_stands}

module _ (a b : Run) where
  pub reach_swap : (bound : ℕ) → Reach bound a b → Reach bound b a
  reach_swap bound (both_run n m out i j x y) = both_run m n out j i y x
  reach_swap bound (both_end n m out status x y) = both_end m n out status y x

module _ (a b : Run) (is_a : IsRun a) where
  -- where the one has ended at the bound, the other ends alike
  ends_at : (n : ℕ) (out : List ℕ) (status : ℕ) → a n ≡ Ended out status → Reach n a b → (m : ℕ) × (b m ≡ Ended out status)
  ends_at n out status e (both_run k m out' i j x y) = absurd (running_not_ended _ _ _ (sym x ∙ end_stands a is_a n k out status i e))
  ends_at n out status e (both_end k m out' status' x y) = elim (either n k) as (λ _. (m : ℕ) × (b m ≡ Ended out status)) [
    | inl le ↦ (m, y ∙ sym x ∙ end_stands a is_a n k out status le e)
    | inr le ↦ (m, y ∙ sym (end_stands a is_a k n out' status' le x) ∙ e)
  ]

  no_failure : (n : ℕ) (out : List ℕ) (why : Wrong) → Reach n a b → a n ≢ Failed out why
  no_failure n out why (both_run k m out' i j x y) e = running_not_failed _ _ _ (sym x ∙ failure_stands a is_a n k out why i e)
  no_failure n out why (both_end k m out' status' x y) e = elim (either n k) as (λ _. ⊥) [
    | inl le ↦ ended_not_failed _ _ _ _ (sym x ∙ failure_stands a is_a n k out why le e)
    | inr le ↦ ended_not_failed _ _ _ _ (sym (end_stands a is_a k n out' status' le x) ∙ e)
  ]

  -- what the one has printed at the bound, the other prints
  prints_at : (n : ℕ) → Reach n a b → (m : ℕ) × IsPrefix (output (a n)) (output (b m))
  prints_at n (both_run k m out i j x y) = (m, subst (IsPrefix (output (a n))) (ap output (x ∙ sym y)) (output_grows a is_a n k i))
  prints_at n (both_end k m out status x y) = elim (either n k) as (λ _. (m : ℕ) × IsPrefix (output (a n)) (output (b m))) [
    | inl le ↦ (m, subst (IsPrefix (output (a n))) (ap output (x ∙ sym y)) (output_grows a is_a n k le))
    | inr le ↦ (m, subst (IsPrefix (output (a n))) (ap output (end_stands a is_a k n out status le x ∙ sym y)) (prefix_refl _))
  ]

pub reach_same : ReachIsSame
reach_same source target is_source is_target reach = record {
  ends = λ n out status e. ends_at source target is_source n out status e (reach n);
  nothing_else = λ m. let back = reach_swap source target m (reach m) in record {
    no_failure = λ out why. no_failure target source is_target m out why back;
    no_other_output = prints_at target source is_target m back;
    no_other_end = λ out status e. ends_at target source is_target m out status e back;
  };
  prints = λ n. prints_at source target is_source n (reach n);
}

module _ (source target : Run) where
  reach_of : (bound : ℕ) (seen : Behaviour) → source bound ≡ seen → NeverFails source → IsFollowedBy bound seen target → Reach bound source target
  reach_of bound (Running out) e never (m, far, f) = both_run bound m out (omega arith) far e f
  reach_of bound (Ended out status) e never (m, f) = both_end bound m out status e f
  reach_of bound (Failed out why) e never _ = absurd (never.at bound out why e)

pub followed_same : FollowedIsSame
followed_same source target is_source is_target never followed = reach_same source target is_source is_target (λ bound. reach_of source target bound (source bound) refl never (followed bound))

pub ended_same : EndedIsSame
ended_same source target is_source is_target n m out status e f = reach_same source target is_source is_target (λ bound. both_end n m out status e f)

-- what a run follows as far as a bound, it follows as far as a lesser one
pub followed_sooner : (n m : ℕ) (seen : Behaviour) (target : Run) → m ≤ n → IsFollowedBy n seen target → IsFollowedBy m seen target
followed_sooner n m (Running out) target le (k, far, e) = (k, omega (arith, far, le), e)
followed_sooner n m (Ended out status) target le followed = followed
followed_sooner n m (Failed out why) target le followed = tt
