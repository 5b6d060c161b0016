use Rattle.behaviour.proofs.Sameness.{same_keep}
use Rattle.behaviour.proofs.laws.keep_keeps_same.Goals as goal

pub returns : goal.returns
returns c = same_keep
