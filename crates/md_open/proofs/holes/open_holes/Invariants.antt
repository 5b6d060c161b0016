use Rattle.std.proofs.Common.{◌≡◌, take}
use Rattle.md_text.specs.Forms.{open_from}
use Rattle.md_open.proofs.holes.open_holes.Given as goal

abbrev pub invariant-loop-index : goal.invariant-loop-index
invariant-loop-index l = l.holes.items ≡ open_from 0 (take l.index l.names)
