use Rattle.color_transfer.proofs.Room.{colored_fits as proved}
use Rattle.color_transfer.proofs.colored_fits.Goals as goal

pub returns : goal.returns
returns c = proved
