use Rattle.std.proofs.Common.{◌+◌, ◌≤◌, length}
use Rattle.asm_labels.proofs.FirstPlaces.{KeepsLabels}
use Rattle.asm_labels.proofs.labels.labels_of.Given as goal

abbrev pub invariant-loop-rest : goal.invariant-loop-rest
invariant-loop-rest l =
    record {
      few : l.place.line + length l.rest ≤ length l.text;
      found : KeepsLabels l.text l.rest l.labels l.place;
    }

abbrev pub decreases-loop-rest : goal.decreases-loop-rest
decreases-loop-rest l = length l.rest
