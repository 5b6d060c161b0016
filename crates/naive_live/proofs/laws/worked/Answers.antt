use Rattle.naive_live.proofs.WorkedLives.{worked}
use Rattle.naive_live.proofs.laws.worked.Goals as goal

pub returns : goal.returns
returns c = worked
