use Rattle.behaviour.proofs.Different.{statuses_differ}
use Rattle.behaviour.proofs.counterexamples.statuses_differ.Goals as goal

pub returns : goal.returns
returns c = statuses_differ
