use Rattle.c_lexer.proofs.Unique.{one_outcome}
use Rattle.c_lexer.proofs.law.one_outcome.Goals as goal

pub returns : goal.returns
returns c = one_outcome
