use Rattle.std.proofs.Common.{ℕ, ◌<◌}
use Rattle.md_rows.specs.declared.description.RawDescription.{RawDescription}
use Rattle.temp_shapes.specs.Rows.{AreShapeRows}
use Rattle.naive_builder.specs.Covered.{IsFlagOf}
use Rattle.naive_builder.proofs.coverage.flag_for.Given as goal

-- no flag so far serves
abbrev pub invariant-loop-flag : goal.invariant-loop-flag
invariant-loop-flag l = (d : RawDescription) → AreShapeRows d l.rows → (j : ℕ) → j < l.flag → IsFlagOf d l.relation j → ⊥
