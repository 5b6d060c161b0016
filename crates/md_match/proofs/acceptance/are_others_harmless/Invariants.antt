use Rattle.std.proofs.Common.{◌≡◌, drop}
use Rattle.md_match.specs.Searches.{others_pass, harmless, is_idle, in_marked, fill}
use Rattle.md_match.proofs.acceptance.are_others_harmless.Given as goal

abbrev pub invariant-loop-j : goal.invariant-loop-j
invariant-loop-j l =
    others_pass (harmless (is_idle l.demands.flags l.demands.barred) (in_marked (fill l.slots) l.row l.used)) (drop l.j l.row) (drop l.j l.used)
    ≡ others_pass (harmless (is_idle l.demands.flags l.demands.barred) (in_marked (fill l.slots) l.row l.used)) l.row l.used
