use Rattle.machine_effect.proofs.Turning.{turn_is_turn as proved}
use Rattle.machine_effect.proofs.turn_is_turn.Goals as goal

pub returns : goal.returns
returns c = proved
