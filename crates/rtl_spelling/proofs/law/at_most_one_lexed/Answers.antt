use Rattle.rtl_spelling.proofs.Lexed.{at_most_one_lexed}
use Rattle.rtl_spelling.proofs.law.at_most_one_lexed.Goals as goal

pub returns : goal.returns
returns c = λ text ts us h k. at_most_one_lexed text ts us h k
