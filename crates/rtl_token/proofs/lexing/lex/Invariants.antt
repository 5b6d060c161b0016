use Rattle.std.proofs.Common.{length}
use Rattle.rtl_token.specs.Seen.{tokens_of}
use Rattle.rtl_token.proofs.Cuts.{LexedTo}
use Rattle.rtl_token.proofs.lexing.lex.Given as goal

abbrev pub invariant-loop-rest : goal.invariant-loop-rest
invariant-loop-rest l = LexedTo l.text l.rest (tokens_of l.tokens.items) l.at

abbrev pub decreases-loop-rest : goal.decreases-loop-rest
decreases-loop-rest l = length l.rest
