use Rattle.md_overlap.specs.Overlap.{OverlapsBefore}
use Rattle.md_overlap.specs.Least.{IsLeast}
use Rattle.md_overlap.proofs.told.least_earlier.Given as goal

-- the least line so far
abbrev pub invariant-loop-i : goal.invariant-loop-i
invariant-loop-i l = IsLeast (OverlapsBefore l.d l.row l.i) l.best
