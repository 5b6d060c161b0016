-- The table of the code computes to that of the definition.
use Rattle.c_grammar.specs.Words.{keywords, keyword_sign}
use Rattle.c_grammar.proofs.sign.keyword.Goals as goal

pub returns : goal.returns
unfolding keywords keyword_sign
returns c = c.sign_in.ensures
