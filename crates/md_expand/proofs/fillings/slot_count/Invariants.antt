use Rattle.std.proofs.Common.{◌≡◌, ◌≤◌, ◌+◌, length, drop}
use Rattle.md_text.specs.Pieces.{slots}
use Rattle.md_forms.specs.Seen.{pieces_of}
use Rattle.md_expand.proofs.fillings.slot_count.Given as goal

abbrev pub invariant-loop-piece : goal.invariant-loop-piece
invariant-loop-piece l =
    (l.count ≤ l.piece-index) × (l.count + length (slots (pieces_of (drop l.piece-index l.text))) ≡ length (slots (pieces_of l.text)))
