use Rattle.std.proofs.Common.{◌<◌, ℕ}
use Rattle.rtl_word.specs.declared.Rel.TheVariants.{Eq}
use Rattle.md_check.specs.Accepted.{IsCovered, shape}
use Rattle.md_check.proofs.shapes.branches_by_flag.Given as goal

-- no flag so far serves
abbrev pub invariant-loop-flag : goal.invariant-loop-flag
invariant-loop-flag g l = (j : ℕ) → j < l.flag → IsCovered l.d (shape 20 1 Eq j) → IsCovered l.d (shape 20 2 l.relation j) → ⊥
