use Rattle.std.proofs.Common.{◌≡◌, map, take}
use Rattle.md_lines.specs.Seen as read
use Rattle.md_forms.specs.Seen.{pieces_of}
use Rattle.md_parser.proofs.owned.owned_pieces.Given as goal

abbrev pub invariant-loop-piece : goal.invariant-loop-piece
invariant-loop-piece l = pieces_of l.owned ≡ map read.piece_of (take l.piece-index l.pieces)
