use Rattle.behaviour.proofs.Growth.{constant_is_run}
use Rattle.behaviour.proofs.laws.constant_is_run.Goals as goal

pub returns : goal.returns
returns c = constant_is_run
