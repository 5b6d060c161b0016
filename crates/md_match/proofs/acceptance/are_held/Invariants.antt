use Rattle.std.proofs.Common.{◌≡◌, drop, take}
use Rattle.md_match.specs.Searches.{all_held}
use Rattle.md_match.proofs.acceptance.are_held.Given as goal

abbrev pub invariant-loop-slot : goal.invariant-loop-slot
invariant-loop-slot l = all_held (drop l.slot-index (take l.count l.slots)) ≡ all_held (take l.count l.slots)
