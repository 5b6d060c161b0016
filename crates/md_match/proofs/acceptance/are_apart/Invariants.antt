use Rattle.std.proofs.Common.{◌≡◌, drop}
use Rattle.md_match.specs.Searches.{all_apart}
use Rattle.md_match.proofs.acceptance.are_apart.Given as goal

abbrev pub invariant-loop-i : goal.invariant-loop-i
invariant-loop-i l = all_apart l.slots (drop l.i l.row) ≡ all_apart l.slots l.row
