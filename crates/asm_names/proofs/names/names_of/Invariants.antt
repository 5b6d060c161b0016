use Rattle.std.proofs.Common.{List, length}
use Rattle.asm_program.specs.TextLines.{Said}
use Rattle.asm_names.specs.LabelNames.{IsSoundText}
use Rattle.asm_names.proofs.NamesLeft.{AreNamesLeft}
use Rattle.asm_names.proofs.names.names_of.Given as goal

abbrev pub invariant-loop-rest : goal.invariant-loop-rest
invariant-loop-rest l = (all : List Said) → IsSoundText l.d l.text all → AreNamesLeft l.d all l.rest l.part l.names

abbrev pub decreases-loop-rest : goal.decreases-loop-rest
decreases-loop-rest l = length l.rest
