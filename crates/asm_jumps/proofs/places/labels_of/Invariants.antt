use Rattle.std.proofs.Common.{◌≤◌, List, length}
use Rattle.asm_program.specs.TextLines.{Said}
use Rattle.asm_jumps.specs.LabelPlaces.{IsTextOf}
use Rattle.asm_jumps.proofs.LabelsLeft.{AreLabelsLeft}
use Rattle.asm_jumps.proofs.places.labels_of.Given as goal

abbrev pub invariant-loop-rest : goal.invariant-loop-rest
invariant-loop-rest l =
    record {
      few : l.count ≤ 1000000;
      left : (all : List Said) → IsTextOf l.d l.names l.text all → AreLabelsLeft l.d l.names all l.rest l.labels.items l.count;
    }

abbrev pub decreases-loop-rest : goal.decreases-loop-rest
decreases-loop-rest l = length l.rest
