use Rattle.temp_machine.proofs.Small.{blocks_are_small as proved}
use Rattle.temp_machine.proofs.laws.blocks_are_small.Goals as goal

pub returns : goal.returns
returns c = proved
