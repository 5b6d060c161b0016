use Rattle.behaviour.proofs.Reaching.{followed_same}
use Rattle.behaviour.proofs.laws.followed_is_same.Goals as goal

pub returns : goal.returns
returns c = followed_same
