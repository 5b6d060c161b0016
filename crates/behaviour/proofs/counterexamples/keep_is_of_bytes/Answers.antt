use Rattle.behaviour.proofs.Different.{keep_is_of_bytes as proved}
use Rattle.behaviour.proofs.counterexamples.keep_is_of_bytes.Goals as goal

pub returns : goal.returns
returns c = proved
