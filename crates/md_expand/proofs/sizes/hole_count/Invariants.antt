use Rattle.std.proofs.Common.{◌≡◌, ◌≤◌, ◌+◌, length, drop}
use Rattle.md_text.specs.Expansion.{holes_in}
use Rattle.md_expand.specs.Seen.{all_shown}
use Rattle.md_expand.proofs.sizes.hole_count.Given as goal

abbrev pub invariant-loop-shown : goal.invariant-loop-shown
invariant-loop-shown l = (l.count ≤ l.shown-index) × (l.count + length (holes_in (all_shown (drop l.shown-index l.text))) ≡ length (holes_in (all_shown l.text)))
