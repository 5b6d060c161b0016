use Rattle.behaviour.proofs.Different.{ends_alike_is_needed as proved}
use Rattle.behaviour.proofs.counterexamples.ends_alike_is_needed.Goals as goal

pub returns : goal.returns
returns c = proved
