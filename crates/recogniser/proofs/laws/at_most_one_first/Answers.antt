use Rattle.recogniser.proofs.OneFirst.{one_first}
use Rattle.recogniser.proofs.laws.at_most_one_first.Goals as goal

pub returns : goal.returns
returns c = one_first
