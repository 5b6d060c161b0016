use Rattle.std.proofs.Common.{length, map}
use Rattle.md_lines.specs.Kept.{line_of}
use Rattle.md_lines.proofs.LinesRead.{ReadTo}
use Rattle.md_lines.proofs.lines.read_lines.Given as goal

abbrev pub invariant-loop-rest : goal.invariant-loop-rest
invariant-loop-rest l = ReadTo l.text l.rest (map line_of l.kept.items) l.number

abbrev pub decreases-loop-rest : goal.decreases-loop-rest
decreases-loop-rest l = length l.rest
