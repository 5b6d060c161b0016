-- Runs that are not the same.
use Rattle.std.proofs.Common.{◌≡◌, ℕ, ◌%◌, ◌<◌, List, [], ◌∷◌, map, refl, sym, subst, arith}
use Rattle.std.proofs.lemmas.List.Elements.{All-head, All-tail}
use Rattle.behaviour.specs.Behaviour.{Running, IsPrefix}
use Rattle.behaviour.specs.Run.{NeverFails, Same, AreBytes, constant}
use Rattle.behaviour.specs.Counterexamples.{EndingIsNotRunning, StatusesDiffer, OutputsDiffer, FailedIsNoTarget, EndsAlikeIsNeeded, NothingElseIsNeeded, PrintsAllIsNeeded, echo, echo_bytes, KeepIsOfBytes}
use Rattle.behaviour.proofs.Prefix.{prefix_refl, prefix_nil}
use Rattle.behaviour.proofs.Growth.{running_not_ended, running_not_failed}
use Rattle.behaviour.proofs.Sameness.{same_refl, keep_of_same}

pub ending_is_not_running : EndingIsNotRunning
ending_is_not_running out status = (
  λ same. let m = same.ends 0 out status refl in running_not_ended _ _ _ m.1,
  λ same. let n = (same.nothing_else 0).no_other_end out status refl in running_not_ended _ _ _ n.1,
)

pub statuses_differ : StatusesDiffer
statuses_differ out status status' differ same = let m = same.ends 0 out status refl in differ (grind (arith, m.1))

not_begun : (byte : ℕ) → ¬ IsPrefix (byte ∷ []) []
not_begun byte begun = grind (arith, begun.1)

pub outputs_differ : OutputsDiffer
outputs_differ byte = (
  λ same. not_begun byte (same.prints 0).1,
  λ same. not_begun byte (same.nothing_else 0).no_other_output.1,
)

pub failed_is_no_target : FailedIsNoTarget
failed_is_no_target source out why same = (same.nothing_else 0).no_failure out why refl

pub ends_alike_is_needed : EndsAlikeIsNeeded
ends_alike_is_needed out status = (
  λ m. record {
    no_failure = λ out' why. running_not_failed _ _ _;
    no_other_output = (0, prefix_refl out);
    no_other_end = λ out' status' e. absurd (running_not_ended _ _ _ e);
  },
  λ n. (0, prefix_refl out),
  λ ends. let m = ends 0 out status refl in running_not_ended _ _ _ m.1,
)

pub nothing_else_is_needed : NothingElseIsNeeded
nothing_else_is_needed byte why = (
  λ n out status e. absurd (running_not_ended _ _ _ e),
  λ n. (0, prefix_nil _),
  λ else_. not_begun byte (else_ 0).no_other_output.1,
  λ n out status e. absurd (running_not_ended _ _ _ e),
  λ n. (0, prefix_nil _),
  λ else_. (else_ 0).no_failure [] why refl,
)

pub prints_all_is_needed : PrintsAllIsNeeded
prints_all_is_needed byte = (
  λ n out status e. absurd (running_not_ended _ _ _ e),
  λ m. record {
    no_failure = λ out' why. running_not_failed _ _ _;
    no_other_output = (0, prefix_nil _);
    no_other_end = λ out' status' e. absurd (running_not_ended _ _ _ e);
  },
  λ prints. not_begun byte (prints 0).1,
)

same_bytes : (input : List ℕ) → AreBytes input → map (λ n. n % 256) input ≡ input
same_bytes [] h = refl
same_bytes (b ∷ bs) h = grind (arith, All-head (λ byte. byte < 256) b bs h, same_bytes bs (All-tail (λ byte. byte < 256) b bs h))

echo_never_fails : (input : List ℕ) → NeverFails (echo input)
echo_never_fails input = record { at = λ n out why. running_not_failed _ _ _ }

pub keep_is_of_bytes : KeepIsOfBytes
keep_is_of_bytes = (
  keep_of_same echo_bytes echo (λ input bytes never. subst (λ out. Same (echo input) (constant (Running out))) (sym (same_bytes input bytes)) (same_refl (echo input) never)),
  echo_never_fails (256 ∷ []),
  λ same. other ((same.nothing_else 0).no_other_output.1),
)
  where
    other : ¬ IsPrefix (0 ∷ []) (256 ∷ [])
    other begun = grind (arith, begun.1)
