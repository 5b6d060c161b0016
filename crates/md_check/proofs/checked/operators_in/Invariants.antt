use Rattle.md_check.specs.Checking.{HasBits}
use Rattle.md_check.proofs.checked.operators_in.Given as goal

-- the bits below
abbrev pub invariant-loop-place : goal.invariant-loop-place
invariant-loop-place g l = HasBits l.d l.covered l.place
