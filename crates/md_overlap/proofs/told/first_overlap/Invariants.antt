use Rattle.md_overlap.specs.Overlap.{HasOverlapBefore}
use Rattle.md_overlap.specs.Least.{IsLeastPair}
use Rattle.md_overlap.proofs.told.first_overlap.Given as goal

-- the least lines so far
abbrev pub invariant-loop-i : goal.invariant-loop-i
invariant-loop-i l = IsLeastPair (HasOverlapBefore l.d l.i) l.best
