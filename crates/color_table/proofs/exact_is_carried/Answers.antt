use Rattle.color_table.proofs.Carrying.{exact_is_carried as proved}
use Rattle.color_table.proofs.exact_is_carried.Goals as goal

pub returns : goal.returns
returns c = proved
