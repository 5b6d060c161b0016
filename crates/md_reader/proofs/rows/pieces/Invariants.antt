use Rattle.std.proofs.Common.{◌≡◌, ◌+◌, ◌≤◌, ◌++◌, drop, length}
use Rattle.md_text.specs.Expansion.{holes_in}
use Rattle.md_text.specs.Accepted.{pieces_from}
use Rattle.md_expand.specs.Seen.{all_shown}
use Rattle.md_reader.proofs.rows.pieces.Given as goal

abbrev pub invariant-loop-shown : goal.invariant-loop-shown
invariant-loop-shown l = record {
  so_far : l.pieces ++ pieces_from l.number (all_shown (drop l.shown-index l.text)) ≡ pieces_from 0 (all_shown l.text);
  few : l.number + length (holes_in (all_shown (drop l.shown-index l.text))) ≤ 8;
}
