use Rattle.behaviour.proofs.Different.{prints_all_is_needed as proved}
use Rattle.behaviour.proofs.counterexamples.prints_all_is_needed.Goals as goal

pub returns : goal.returns
returns c = proved
