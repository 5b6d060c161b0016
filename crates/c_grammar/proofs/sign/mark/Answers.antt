-- The table of the code computes to that of the definition.
use Rattle.c_grammar.specs.Words.{marks, mark_sign}
use Rattle.c_grammar.proofs.sign.mark.Goals as goal

pub returns : goal.returns
unfolding marks mark_sign
returns c = c.sign_in.ensures
