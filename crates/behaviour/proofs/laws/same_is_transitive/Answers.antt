use Rattle.behaviour.proofs.Sameness.{same_trans}
use Rattle.behaviour.proofs.laws.same_is_transitive.Goals as goal

pub returns : goal.returns
returns c = same_trans
