use Rattle.behaviour.proofs.Sameness.{same_is_reflexive}
use Rattle.behaviour.proofs.laws.same_is_reflexive.Goals as goal

pub returns : goal.returns
returns c = same_is_reflexive
