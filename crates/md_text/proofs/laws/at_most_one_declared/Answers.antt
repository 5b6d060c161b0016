use Rattle.md_text.proofs.Declaring.{declared_once}
use Rattle.md_text.proofs.laws.at_most_one_declared.Goals as goal

pub returns : goal.returns
returns c = λ text d e p q. declared_once text d e p q
