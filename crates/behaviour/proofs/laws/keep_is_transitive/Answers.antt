use Rattle.behaviour.proofs.Sameness.{keep_trans}
use Rattle.behaviour.proofs.laws.keep_is_transitive.Goals as goal

pub returns : goal.returns
returns c = keep_trans
