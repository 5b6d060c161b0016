-- The table of the code computes to that of the definition.
use Rattle.c_lexer.specs.Words.{keywords}
use Rattle.c_lexer.proofs.words.is_keyword.Goals as goal

pub returns : goal.returns
unfolding keywords
returns c = c.contains.ensures
