use Rattle.std.proofs.Common.{◌≡◌, map, take}
use Rattle.md_expand.specs.Filled.{assign_of}
use Rattle.md_reader.proofs.rows.effects.Given as goal

abbrev pub invariant-loop-filled : goal.invariant-loop-filled
invariant-loop-filled l = l.list.items ≡ map assign_of (take l.filled-index l.transfer)
