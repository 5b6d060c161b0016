use Rattle.std.proofs.Common.{◌≤◌, length, drop}
use Rattle.std.specs.Prelude.{AllPairs}
use Rattle.frame_link.specs.Tested.{Differ, HoldsLabels}
use Rattle.frame_link.proofs.standing.standing_of.Given as goal

abbrev pub invariant-loop-at : goal.invariant-loop-at
invariant-loop-at l =
    record {
      within : l.at ≤ length l.labels;
      holds : HoldsLabels (drop l.at l.labels) l.standing;
      differ : AllPairs Differ (drop l.at l.labels);
    }

abbrev pub decreases-loop-at : goal.decreases-loop-at
decreases-loop-at l = l.at
