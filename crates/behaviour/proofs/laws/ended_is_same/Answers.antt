use Rattle.behaviour.proofs.Reaching.{ended_same}
use Rattle.behaviour.proofs.laws.ended_is_same.Goals as goal

pub returns : goal.returns
returns c = ended_same
