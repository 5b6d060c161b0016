use Rattle.behaviour.proofs.Different.{nothing_else_is_needed as proved}
use Rattle.behaviour.proofs.counterexamples.nothing_else_is_needed.Goals as goal

pub returns : goal.returns
returns c = proved
