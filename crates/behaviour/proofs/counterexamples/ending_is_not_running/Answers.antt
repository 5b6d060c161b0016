use Rattle.behaviour.proofs.Different.{ending_is_not_running}
use Rattle.behaviour.proofs.counterexamples.ending_is_not_running.Goals as goal

pub returns : goal.returns
returns c = ending_is_not_running
