use Rattle.std.proofs.Common.{◌≡◌, drop, false, nat_le}
use Rattle.md_rows.specs.Lines.{bytes_after}
use Rattle.md_covers.proofs.lines.is_within.Given as goal

abbrev pub invariant-loop-i : goal.invariant-loop-i
invariant-loop-i l =
    nat_le (bytes_after l.registers l.holes l.word (drop l.i l.text)) l.left
    ≡ nat_le (bytes_after l.registers l.holes false (drop l.from l.text)) l.most
