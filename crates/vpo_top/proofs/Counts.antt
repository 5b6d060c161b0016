-- How the counts of files move by what is asked for.
use Rattle.std.proofs.Common.{◌≡◌, ◌≢◌, ℕ, ◌≤◌, List, Option, Some, refl, sym, subst, ap, ◌∙◌, arith, Bool, true, false, bytes_eq, Decides}
use Rattle.std.proofs.lemmas.Bool.Decides.{not_from_Decides}
use Rattle.std.proofs.lemmas.Slice.Eq.{bytes_eq-Decides}
use Rattle.vp_io.specs.Files.{FaultCounts, CountsOnly}
use Rattle.vp_io.specs.declared.answers.Which.{Which}
use Rattle.vpo_top.specs.Request.{Asked, name_asked}
use Rattle.vpo_top.specs.Faults.{CountsOnlyAsked}

-- no count has fallen
pub never_falls : (name : List ℕ) (before now : FaultCounts) → CountsOnly name before now → (other : List ℕ) → before.of other ≤ now.of other
never_falls name before now counts other = by_case (bytes_eq other name) (bytes_eq-Decides other name)
  where
    by_case : (b : Bool) → Decides b (other ≡ name) → before.of other ≤ now.of other
    by_case true d = let P : List ℕ → Type 0 = λ n. before.of n ≤ now.of n in subst P (sym (d.0 refl)) counts.of_name
    by_case false d =
        let other_name : other ≢ name = not_from_Decides {P = other ≡ name} false d refl in omega (arith, counts.others other other_name)

-- one file that is asked for was fetched
pub one_counted : (wanted : Option Asked) (which : Which) (name : List ℕ) (before now : FaultCounts)
    → name_asked wanted which ≡ Some name → CountsOnly name before now → CountsOnlyAsked wanted before now
one_counted wanted which name before now asked counts = record {
  total = counts.total;
  of_name = never_falls name before now counts;
  others = λ other unasked. counts.others other (λ is. unasked which (asked ∙ ap (λ n. Some n) (sym is)));
}

-- and then another
pub both_counted : (wanted : Option Asked) (which which' : Which) (name name' : List ℕ) (before mid now : FaultCounts)
    → name_asked wanted which ≡ Some name → name_asked wanted which' ≡ Some name'
    → CountsOnly name before mid → CountsOnly name' mid now → CountsOnlyAsked wanted before now
both_counted wanted which which' name name' before mid now asked asked' first then = record {
  total = omega (arith, first.total, then.total);
  of_name = λ other. omega (arith, never_falls name before mid first other, never_falls name' mid now then other);
  others = λ other unasked.
      then.others other (λ is. unasked which' (asked' ∙ ap (λ n. Some n) (sym is)))
      ∙ first.others other (λ is. unasked which (asked ∙ ap (λ n. Some n) (sym is)));
}
