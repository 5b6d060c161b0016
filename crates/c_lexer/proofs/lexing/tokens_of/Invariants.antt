-- Pieces lead up to the rest; the place has moved a line or a column for each byte at most.
use Rattle.std.proofs.Common.{◌+◌, ◌<◌, ◌≤◌, length}
use Rattle.c_lexer.specs.Reached.{Reached}
use Rattle.c_lexer.proofs.lexing.tokens_of.Given as goal

abbrev pub invariant-loop-rest : goal.invariant-loop-rest
invariant-loop-rest l = record {
  reached : Reached l.text l.rest l.line l.at l.tokens.items;
  line : l.at.line + length l.rest ≤ length l.text + 1;
  column : l.at.column + length l.rest ≤ length l.text + 1;
  some : 0 < l.at.column;
}

abbrev pub decreases-loop-rest : goal.decreases-loop-rest
decreases-loop-rest l = length l.rest
