use Rattle.md_text.proofs.Declaring.{said_once}
use Rattle.md_text.proofs.laws.at_most_one_description.Goals as goal

pub returns : goal.returns
returns c = λ text d e p q. said_once text d e p q
