use Rattle.color_cores.proofs.Cores.{core_does as proved}
use Rattle.color_cores.proofs.core_does.Goals as goal

pub returns : goal.returns
returns c = proved
