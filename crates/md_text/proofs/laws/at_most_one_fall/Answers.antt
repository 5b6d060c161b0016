use Rattle.md_text.proofs.Splits.{falls_once}
use Rattle.md_text.proofs.laws.at_most_one_fall.Goals as goal

pub returns : goal.returns
returns c = λ text lines more rest other p q. falls_once text lines more rest other p q
