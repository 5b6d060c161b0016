use Rattle.link_code.proofs.Example.{labels_have_to_differ as proved}
use Rattle.link_code.proofs.examples.labels_have_to_differ.Goals as goal

pub returns : goal.returns
returns c = proved
