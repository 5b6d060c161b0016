use Rattle.behaviour.proofs.Different.{failed_is_no_target}
use Rattle.behaviour.proofs.counterexamples.failed_is_no_target.Goals as goal

pub returns : goal.returns
returns c = failed_is_no_target
