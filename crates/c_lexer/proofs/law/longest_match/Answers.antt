use Rattle.c_lexer.proofs.Longest.{longest_match}
use Rattle.c_lexer.proofs.law.longest_match.Goals as goal

pub returns : goal.returns
returns c = longest_match
