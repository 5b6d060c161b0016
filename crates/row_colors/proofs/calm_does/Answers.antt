use Rattle.row_colors.proofs.Cores.{calm_core as law}
use Rattle.row_colors.proofs.calm_does.Goals as goal

pub returns : goal.returns
returns c = law
