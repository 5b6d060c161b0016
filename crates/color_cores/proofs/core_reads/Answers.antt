use Rattle.color_cores.proofs.Cores.{core_reads as proved}
use Rattle.color_cores.proofs.core_reads.Goals as goal

pub returns : goal.returns
returns c = proved
