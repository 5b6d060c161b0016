use Rattle.color_worked.proofs.Premises.{worked as proved}
use Rattle.color_worked.proofs.worked.Goals as goal

pub returns : goal.returns
returns c = proved
