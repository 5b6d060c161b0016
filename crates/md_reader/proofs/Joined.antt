-- The first broken rule of two ranges of rules.
use Rattle.std.proofs.Common.{◌≡◌, ℕ, ◌+◌, ◌<◌, ◌≤◌, ◌⊎◌, inl, inr, subst, arith}
use Rattle.std.specs.declared.option.Option.{Option}
use Rattle.std.specs.declared.option.Option.TheVariants.{Some, None}
use Rattle.md_text.specs.Declarations.{Declared}
use Rattle.md_text.specs.Accepted.{Rule, number_of}
use Rattle.md_forms.specs.declared.rules.Told.{Told}
use Rattle.md_forms.specs.SeenRules.{rule_of}
use Rattle.md_rules.specs.Least.{IsLeast}
use Rattle.md_rules.specs.Broken.{BreaksBy, IsFirst}
use Rattle.md_rules.proofs.RuleOrder.{same_rule}

less_or_not : (m n : ℕ) → (m < n) ⊎ (n ≤ m)
less_or_not m n = grind arith

pub told_before : (low next high : ℕ) (d : Declared) (told : Told) → next ≤ high → IsFirst low next d (Some told) → IsFirst low high d (Some told)
told_before low next high d told n first = record {
  from = first.from;
  below = omega (arith, n, first.below);
  broken = first.broken;
  least_rule = first.least_rule;
  least_line = first.least_line;
}

pub told_behind :
    (low next high : ℕ) (d : Declared) (second : Option Told) → low ≤ next → IsFirst low next d None → IsFirst next high d second → IsFirst low high d second
told_behind low next high d None l first second = λ r line from below broken. by r line from below broken (less_or_not (number_of r) next)
  where
    by : (r : Rule) (line : ℕ) → low ≤ number_of r → number_of r < high → BreaksBy r d line → (number_of r < next) ⊎ (next ≤ number_of r) → ⊥
    by r line from below broken (inl less) = first r line from less broken
    by r line from below broken (inr more) = second r line more below broken
told_behind low next high d (Some told) l first second = record {
  from = omega (arith, l, second.from);
  below = second.below;
  broken = second.broken;
  least_rule = λ r line from lower broken. by r line from lower broken (less_or_not (number_of r) next);
  least_line = second.least_line;
}
  where
    by : (r : Rule) (line : ℕ) → low ≤ number_of r → number_of r < number_of (rule_of told.rule) → BreaksBy r d line → (number_of r < next) ⊎ (next ≤ number_of r) → ⊥
    by r line from lower broken (inl less) = first r line from less broken
    by r line from lower broken (inr more) = second.least_rule r line more lower broken

pub told_alone :
    (d : Declared) (told : Told) → IsLeast (BreaksBy (rule_of told.rule) d) (Some told.line)
    → IsFirst (number_of (rule_of told.rule)) (number_of (rule_of told.rule) + 1) d (Some told)
told_alone d told least = record {
  from = omega arith;
  below = omega arith;
  broken = least.0;
  least_rule = λ r l from lower broken. absurd (omega (arith, from, lower));
  least_line = least.1;
}

pub none_alone : (d : Declared) (rule : Rule) → IsLeast (BreaksBy rule d) None → IsFirst (number_of rule) (number_of rule + 1) d None
none_alone d rule least = λ r l from below broken.
    let same : number_of r ≡ number_of rule = omega (arith, from, below) in
    least l (subst (λ s. BreaksBy s d l) (same_rule r rule same) broken)
