use Rattle.std.proofs.Common.{◌≡◌, drop}
use Rattle.md_match.specs.Searches.{apart_from}
use Rattle.md_match.proofs.acceptance.is_apart_from.Given as goal

abbrev pub invariant-loop-j : goal.invariant-loop-j
invariant-loop-j l = apart_from l.slots l.register (drop l.j l.row) ≡ apart_from l.slots l.register (drop l.from l.row)
