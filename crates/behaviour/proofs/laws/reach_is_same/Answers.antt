use Rattle.behaviour.proofs.Reaching.{reach_same}
use Rattle.behaviour.proofs.laws.reach_is_same.Goals as goal

pub returns : goal.returns
returns c = reach_same
