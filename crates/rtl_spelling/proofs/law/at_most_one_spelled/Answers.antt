use Rattle.rtl_spelling.proofs.Lexed.{at_most_one_spelled}
use Rattle.rtl_spelling.proofs.law.at_most_one_spelled.Goals as goal

pub returns : goal.returns
returns c = λ b text ms ns k s r. at_most_one_spelled b text ms ns k s r
