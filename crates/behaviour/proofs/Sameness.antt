-- `Same` and `Keep` are reflexive and transitive.
use Rattle.std.proofs.Common.{ℕ, List, ap}
use Rattle.behaviour.specs.Behaviour.{Behaviour, Running, Ended, Failed, output}
use Rattle.behaviour.specs.Run.{Run, NeverFails, Allows, Same, AreBytes, Keep}
use Rattle.behaviour.specs.Laws.{SameIsReflexive, SameIsTransitive, SameEndsAlike, KeepIsReflexive, KeepIsTransitive, KeepKeepsSame}
use Rattle.behaviour.proofs.Prefix.{prefix_refl, prefix_trans}
use Rattle.behaviour.proofs.Growth.{one_end}

-- a target of any source never fails
pub target_never_fails : (source target : Run) → Same source target → NeverFails target
target_never_fails source target same = record { at = λ m. (same.nothing_else m).no_failure }

pub same_refl : (r : Run) → NeverFails r → Same r r
same_refl r never = record {
  ends = λ n out status e. (n, e);
  nothing_else = λ m. record {
    no_failure = never.at m;
    no_other_output = (m, prefix_refl _);
    no_other_end = λ out status e. (m, e);
  };
  prints = λ n. (n, prefix_refl _);
}

pub same_is_reflexive : SameIsReflexive
same_is_reflexive r = (same_refl r, target_never_fails r r)

allows_trans : (source middle target : Run) → Same source middle → Same middle target → (m : ℕ) → Allows source (target m)
allows_trans source middle target first second m =
    let allowed = second.nothing_else m in
    let here = allowed.no_other_output in
    let there = (first.nothing_else here.0).no_other_output in
    record {
      no_failure = allowed.no_failure;
      no_other_output = (there.0, prefix_trans _ _ _ here.1 there.1);
      no_other_end = λ out status e. let n = allowed.no_other_end out status e in (first.nothing_else n.0).no_other_end out status n.1;
    }

pub same_trans : SameIsTransitive
same_trans source middle target first second = record {
  ends = λ n out status e. let m = first.ends n out status e in second.ends m.0 out status m.1;
  nothing_else = allows_trans source middle target first second;
  prints = λ n. let m = first.prints n in let k = second.prints m.0 in (k.0, prefix_trans _ _ _ m.1 k.1);
}

-- 0 where there is none
abbrev status_of : Behaviour → ℕ
status_of (Running out) = 0
status_of (Ended out status) = status
status_of (Failed out why) = 0

pub same_ends_alike : SameEndsAlike
same_ends_alike source target is same n m out out' status status' e f =
    let k = same.ends n out status e in
    let one = one_end target is k.0 m out out' status status' k.1 f in
    (ap output one, ap status_of one)

-- to keep a program is to be the same where it never fails
pub keep_of_same : (new old : List ℕ → Run) → ((input : List ℕ) → AreBytes input → NeverFails (old input) → Same (old input) (new input)) → Keep new old
keep_of_same new old same = record {
  never_fails = λ input bytes never. target_never_fails _ _ (same input bytes never);
  same = same;
}

pub keep_refl : KeepIsReflexive
keep_refl program = keep_of_same program program (λ input bytes. same_refl (program input))

pub keep_trans : KeepIsTransitive
keep_trans old middle new first second =
    keep_of_same new old (λ input bytes never. same_trans _ _ _ (first.same input bytes never) (second.same input bytes (first.never_fails input bytes never)))

pub same_keep : KeepKeepsSame
same_keep source old new input bytes same keep = same_trans _ _ _ same (keep.same input bytes (target_never_fails _ _ same))
