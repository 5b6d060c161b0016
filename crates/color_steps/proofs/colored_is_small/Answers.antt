use Rattle.color_steps.proofs.Sizes.{colored_is_small as proved}
use Rattle.color_steps.proofs.colored_is_small.Goals as goal

pub returns : goal.returns
returns c = proved
