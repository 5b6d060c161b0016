use Rattle.std.proofs.Common.{◌+◌, ◌≤◌, List, length}
use Rattle.asm_program.specs.TextLines.{Said}
use Rattle.asm_program.specs.Rules.{AreSaid}
use Rattle.asm_labels.specs.Tables.{AreLabels}
use Rattle.asm_faults.specs.Counts.{IsSmall}
use Rattle.asm_faults.proofs.Reached.{IsReached}
use Rattle.asm_faults.proofs.faults.first_fault.Given as goal

abbrev pub invariant-loop-rest : goal.invariant-loop-rest
invariant-loop-rest l =
    record {
      few : l.at.place.line + length l.rest ≤ length l.text;
      small : IsSmall l.at;
      reached : (all : List Said) → AreSaid l.text all → AreLabels all l.labels → IsReached l.d all l.rest l.at;
    }

abbrev pub decreases-loop-rest : goal.decreases-loop-rest
decreases-loop-rest l = length l.rest
