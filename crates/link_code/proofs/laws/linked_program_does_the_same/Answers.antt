use Rattle.link_code.proofs.Bridge.{linked_keeps as proved}
use Rattle.link_code.proofs.laws.linked_program_does_the_same.Goals as goal

pub returns : goal.returns
returns c = proved
