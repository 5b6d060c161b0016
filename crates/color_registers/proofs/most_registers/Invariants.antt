use Rattle.std.proofs.Common.{◌≡◌, drop, max}
use Rattle.md_check.specs.Accepted.{most_registers}
use Rattle.color_registers.proofs.most_registers.Given as goal

abbrev pub invariant-loop-i : goal.invariant-loop-i
invariant-loop-i l = max l.most (most_registers (drop l.i l.rows)) ≡ most_registers l.rows
