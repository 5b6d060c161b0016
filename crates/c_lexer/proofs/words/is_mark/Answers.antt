-- The table of the code computes to that of the definition.
use Rattle.c_lexer.specs.Words.{marks}
use Rattle.c_lexer.proofs.words.is_mark.Goals as goal

pub returns : goal.returns
unfolding marks
returns c = c.contains.ensures
