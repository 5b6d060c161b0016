use Rattle.std.proofs.Common.{◌<◌, ℕ}
use Rattle.md_check.specs.Accepted.{MissesShape}
use Rattle.md_check.proofs.shapes.first_missing.Given as goal

-- none below is missing
abbrev pub invariant-loop-number : goal.invariant-loop-number
invariant-loop-number g l = (m : ℕ) → m < l.number → MissesShape l.d m → ⊥
