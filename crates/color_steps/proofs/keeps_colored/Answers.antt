use Rattle.color_steps.proofs.Keeping.{keeps_colored as proved}
use Rattle.color_steps.proofs.keeps_colored.Goals as goal

pub returns : goal.returns
returns c = proved
