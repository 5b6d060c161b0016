use Rattle.std.proofs.Common.{List, length}
use Rattle.asm_program.specs.TextLines.{Said}
use Rattle.asm_program.specs.Rules.{AreSaid}
use Rattle.asm_data.proofs.Ahead.{IsAhead}
use Rattle.asm_data.proofs.data.data_part.Given as goal

abbrev pub invariant-loop-rest : goal.invariant-loop-rest
invariant-loop-rest l = (all : List Said) → AreSaid l.text all → IsAhead all l.rest

abbrev pub decreases-loop-rest : goal.decreases-loop-rest
decreases-loop-rest l = length l.rest
