use Rattle.color_jumps.proofs.Renamed.{jump_is_renamed as proved}
use Rattle.color_jumps.proofs.jump_is_renamed.Goals as goal

pub returns : goal.returns
returns c = proved
