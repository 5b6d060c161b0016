-- The table of the code computes to that of the definition.
use Rattle.rtl_token.proofs.words.keyword.Goals as goal

pub returns : goal.returns
returns c = c.sense_in.ensures
