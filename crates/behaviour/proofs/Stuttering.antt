-- A simulation in which the target may rest, as long as a size of the source's state falls.
use Rattle.std.proofs.Common.{◌≡◌, ℕ, zero, suc, ◌+◌, ◌<◌, refl, ◌∙◌, subst, arith, inl, inr}
use Rattle.behaviour.specs.Steps.{Move, Goes, Stops, Fails, Machine, Leads, Diagram, both_lead, both_stop, source_fails, Simulates, IsMatched, Stuttering}
use Rattle.behaviour.proofs.Stepping.{leads_one, leads_trans, stops_one, fails_one}

module _ (M N : Machine) (R : M.State → N.State → Type 0) (size : M.State → ℕ) (sim : Stuttering M N R size) where
  one_more : (s s' : M.State) (t : N.State) → Leads M s s' → Diagram M N R s' t → Diagram M N R s t
  one_more s s' t x (both_lead u t' y z r) = both_lead u t' (leads_trans M s s' u x y) z r
  one_more s s' t x (both_stop n m out status e f) = both_stop (x.steps + n) m out status (x.by n ∙ e) f
  one_more s s' t x (source_fails n out why e) = source_fails (x.steps + n) out why (x.by n ∙ e)

  diagram_by : (fuel : ℕ) (s : M.State) (t : N.State) → R s t → size s < fuel → Diagram M N R s t
  diagram_by zero s t r h = absurd (omega (arith, h))
  diagram_by (suc fuel) s t r h = by (λ s' r' l. diagram_by fuel s' t r' (omega (arith, h, l))) (M.step s) refl (sim.matches s t r)
    where
      by : ((s' : M.State) → R s' t → size s' < size s → Diagram M N R s' t) → (x : Move M.State) → M.step s ≡ x → IsMatched M N R size x (size s) t → Diagram M N R s t
      by go (Goes s') e (t', r', inl l) = both_lead s' t' (leads_one M s s' e) l r'
      by go (Goes s') e (t', r', inr l) = one_more s s' t (leads_one M s s' e) (go s' (subst (R s') l.0 r') l.1)
      by go (Stops out status) e (m, f) = both_stop 1 m out status (stops_one M s out status e) f
      by go (Fails out why) e f = source_fails 1 out why (fails_one M s out why e)

  pub stuttering_simulates : Simulates M N R
  stuttering_simulates = record { same_output = sim.same_output; diagrams = λ s t r. diagram_by (suc (size s)) s t r (omega arith) }
