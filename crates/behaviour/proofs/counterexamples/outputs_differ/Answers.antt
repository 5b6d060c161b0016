use Rattle.behaviour.proofs.Different.{outputs_differ}
use Rattle.behaviour.proofs.counterexamples.outputs_differ.Goals as goal

pub returns : goal.returns
returns c = outputs_differ
