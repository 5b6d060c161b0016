use Rattle.md_text.proofs.Tellings.{told_once}
use Rattle.md_text.proofs.laws.at_most_one_told.Goals as goal

pub returns : goal.returns
returns c = λ text r s l m p q. told_once text r s l m p q
