use Rattle.c_lexer.proofs.Closes.{NoneBefore}
use Rattle.c_lexer.proofs.piece.close_place.Given as goal

abbrev pub invariant-loop-place : goal.invariant-loop-place
invariant-loop-place l = NoneBefore l.bytes l.place
