use Rattle.color_table.proofs.Blocks.{bodies_are_places as proved}
use Rattle.color_table.proofs.bodies_are_places.Goals as goal

pub returns : goal.returns
returns c = proved
