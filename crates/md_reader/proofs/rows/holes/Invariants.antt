use Rattle.std.proofs.Common.{◌≡◌, take}
use Rattle.md_text.specs.Expansion.{holes_in}
use Rattle.md_expand.specs.Seen.{all_shown}
use Rattle.md_reader.proofs.rows.holes.Given as goal

abbrev pub invariant-loop-shown : goal.invariant-loop-shown
invariant-loop-shown l = l.holes ≡ holes_in (all_shown (take l.shown-index l.text))
