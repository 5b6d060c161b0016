use Rattle.std.proofs.Common.{List, length}
use Rattle.asm_program.specs.TextLines.{Said}
use Rattle.asm_instances.specs.Known.{AreLinesLeft, IsNamedText}
use Rattle.asm_instances.proofs.lines.lines_of.Given as goal

abbrev pub invariant-loop-rest : goal.invariant-loop-rest
invariant-loop-rest l = (all : List Said) → IsNamedText l.rows l.names l.text all → AreLinesLeft l.rows l.names all l.rest l.lines.items

abbrev pub decreases-loop-rest : goal.decreases-loop-rest
decreases-loop-rest l = length l.rest
