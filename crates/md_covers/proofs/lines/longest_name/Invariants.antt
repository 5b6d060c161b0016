use Rattle.std.proofs.Common.{◌≡◌, drop, max}
use Rattle.md_rows.specs.Lines.{longest_name}
use Rattle.md_covers.proofs.lines.longest_name.Given as goal

abbrev pub invariant-loop-i : goal.invariant-loop-i
invariant-loop-i l = max l.most (longest_name l.class (drop l.i l.registers)) ≡ longest_name l.class l.registers
