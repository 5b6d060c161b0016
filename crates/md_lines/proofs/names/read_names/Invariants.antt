use Rattle.std.proofs.Common.{length, map}
use Rattle.md_lines.proofs.NamesRead.{NamesTo}
use Rattle.md_lines.proofs.names.read_names.Given as goal

abbrev pub invariant-loop-rest : goal.invariant-loop-rest
invariant-loop-rest l = NamesTo l.text l.rest (map (λ name. name.now) l.names.items)

abbrev pub decreases-loop-rest : goal.decreases-loop-rest
decreases-loop-rest l = length l.rest
