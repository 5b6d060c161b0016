-- What one run shows at a lesser and a greater bound.
use Rattle.std.proofs.Common.{◌≡◌, ◌≢◌, ℕ, ◌≤◌, List, refl, sym, ◌∙◌, subst, arith, inl, inr, ◌⊎◌}
use Rattle.std.proofs.lemmas.Bool.{cases_lt}
use Rattle.behaviour.specs.Behaviour.{Wrong, Behaviour, Running, Ended, Failed, output, IsPrefix, IsExtendedBy}
use Rattle.behaviour.specs.Run.{Run, IsRun, NeverFails}
use Rattle.behaviour.specs.Laws.{ConstantIsRun}
use Rattle.behaviour.proofs.Prefix.{prefix_refl}

pub running_not_ended : (out out' : List ℕ) (status : ℕ) → Running out ≢ Ended out' status
running_not_ended out out' status e = grind (arith, e)

pub running_not_failed : (out out' : List ℕ) (why : Wrong) → Running out ≢ Failed out' why
running_not_failed out out' why e = grind (arith, e)

pub ended_not_failed : (out out' : List ℕ) (status : ℕ) (why : Wrong) → Ended out status ≢ Failed out' why
ended_not_failed out out' status why e = grind (arith, e)

-- which of two bounds is the lesser
pub either : (n m : ℕ) → (n ≤ m) ⊎ (m ≤ n)
either n m = elim (cases_lt n m) as (λ _. (n ≤ m) ⊎ (m ≤ n)) [ inl lt ↦ inl (omega (arith, lt)) | inr ge ↦ inr (omega (arith, ge)) ]

pub extended_output : (x y : Behaviour) → IsExtendedBy x y → IsPrefix (output x) (output y)
extended_output (Running out) y later = later
extended_output (Ended out status) y later = subst (λ z. IsPrefix out (output z)) (sym later) (prefix_refl out)
extended_output (Failed out why) y later = subst (λ z. IsPrefix out (output z)) (sym later) (prefix_refl out)

extended_refl : (x : Behaviour) → IsExtendedBy x x
extended_refl (Running out) = prefix_refl out
extended_refl (Ended out status) = refl
extended_refl (Failed out why) = refl

module _ (r : Run) (is : IsRun r) where
  pub output_grows : (n m : ℕ) → n ≤ m → IsPrefix (output (r n)) (output (r m))
  output_grows n m le = extended_output (r n) (r m) (is.extends n m le)

  pub end_stands : (n m : ℕ) (out : List ℕ) (status : ℕ) → n ≤ m → r n ≡ Ended out status → r m ≡ Ended out status
  end_stands n m out status le e = subst (λ x. IsExtendedBy x (r m)) e (is.extends n m le)

  pub failure_stands : (n m : ℕ) (out : List ℕ) (why : Wrong) → n ≤ m → r n ≡ Failed out why → r m ≡ Failed out why
  failure_stands n m out why le e = subst (λ x. IsExtendedBy x (r m)) e (is.extends n m le)

  -- a run ends once
  pub one_end : (n m : ℕ) (out out' : List ℕ) (status status' : ℕ) → r n ≡ Ended out status → r m ≡ Ended out' status' → Ended out status ≡ Ended out' status'
  one_end n m out out' status status' e f = elim (either n m) as (λ _. Ended out status ≡ Ended out' status') [
    | inl le ↦ sym (end_stands n m out status le e) ∙ f
    | inr le ↦ sym e ∙ end_stands m n out' status' le f
  ]

  pub ended_never_fails : (n : ℕ) (out : List ℕ) (status : ℕ) → r n ≡ Ended out status → NeverFails r
  ended_never_fails n out status e = record {
    at = λ m out' why f. elim (either n m) as (λ _. ⊥) [
      | inl le ↦ ended_not_failed _ _ _ _ (sym (end_stands n m out status le e) ∙ f)
      | inr le ↦ ended_not_failed _ _ _ _ (sym e ∙ failure_stands m n out' why le f)
    ];
  }

pub constant_is_run : ConstantIsRun
constant_is_run seen = record { extends = λ n m le. extended_refl seen }
