use Rattle.std.proofs.Common.{length}
use Rattle.asm_row.proofs.reading.+read_pieces.Given as goal

abbrev pub decreases-read_pieces : goal.decreases-read_pieces
decreases-read_pieces l = length l.pieces.now
