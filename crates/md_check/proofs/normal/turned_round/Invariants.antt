use Rattle.std.proofs.Common.{◌≡◌, ◌++◌, length}
use Rattle.md_check.specs.Checking.{reversed}
use Rattle.md_check.proofs.normal.turned_round.Given as goal

-- the rows at the end stand turned round
abbrev pub invariant-loop-row : goal.invariant-loop-row
invariant-loop-row l = l.back ++ reversed l.rows ≡ reversed l.fn.rows

abbrev pub decreases-loop-row : goal.decreases-loop-row
decreases-loop-row l = length l.rows
