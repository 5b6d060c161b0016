use Rattle.std.proofs.Common.{◌≡◌, take}
use Rattle.md_match.specs.Does.{known}
use Rattle.link_rows.proofs.added.values.Given as goal

abbrev pub invariant-loop-slot : goal.invariant-loop-slot
invariant-loop-slot l = l.list.items ≡ known (take l.slot-index l.slots)
