use Rattle.link_code.proofs.Example.{all_end_alike as proved}
use Rattle.link_code.proofs.examples.linked_programs_end_alike.Goals as goal

pub returns : goal.returns
returns c = proved
