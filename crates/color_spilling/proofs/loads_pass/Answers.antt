use Rattle.color_spilling.proofs.Passing.{loads_pass as proved}
use Rattle.color_spilling.proofs.loads_pass.Goals as goal

pub returns : goal.returns
returns c = proved
