use Rattle.std.proofs.Common.{length, map}
use Rattle.md_text.specs.Pieces.{HasNoOuterSpace}
use Rattle.md_lines.specs.Seen.{piece_of}
use Rattle.md_lines.proofs.PiecesRead.{PiecesTo}
use Rattle.md_lines.proofs.pieces.read_pieces.Given as goal

abbrev pub invariant-loop-first : goal.invariant-loop-first
invariant-loop-first l = PiecesTo l.text l.rest (map piece_of l.pieces.items)

abbrev pub decreases-loop-first : goal.decreases-loop-first
decreases-loop-first l = length l.rest
