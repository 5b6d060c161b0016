use Rattle.behaviour.proofs.Counting.{countdown_stutters as proved}
use Rattle.behaviour.proofs.examples.countdown_stutters.Goals as goal

pub returns : goal.returns
returns c = proved
