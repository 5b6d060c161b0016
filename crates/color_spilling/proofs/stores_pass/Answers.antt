use Rattle.color_spilling.proofs.Passing.{stores_pass as proved}
use Rattle.color_spilling.proofs.stores_pass.Goals as goal

pub returns : goal.returns
returns c = proved
