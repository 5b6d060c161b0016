use Rattle.behaviour.proofs.Sameness.{same_ends_alike}
use Rattle.behaviour.proofs.laws.same_ends_alike.Goals as goal

pub returns : goal.returns
returns c = same_ends_alike
