use Rattle.link_code.proofs.Example.{premises_are_met as proved}
use Rattle.link_code.proofs.examples.premises_are_met.Goals as goal

pub returns : goal.returns
returns c = proved
