use Rattle.md_check.proofs.Outcomes.{one_outcome}
use Rattle.md_check.proofs.laws.at_most_one_outcome.Goals as goal

pub returns : goal.returns
returns c = one_outcome c.at_most_one_told.ensures c.at_most_one_description.ensures
