use Rattle.color_code.proofs.Sparing.{greedy_sparing as proved}
use Rattle.color_code.proofs.greedy_is_sparing.Goals as goal

pub returns : goal.returns
returns c = proved
