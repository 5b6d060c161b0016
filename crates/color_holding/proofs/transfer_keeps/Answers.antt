use Rattle.color_holding.proofs.Transfers.{transfer_keeps as proved}
use Rattle.color_holding.proofs.transfer_keeps.Goals as goal

pub returns : goal.returns
returns c = proved
