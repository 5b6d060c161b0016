use Rattle.color_units.proofs.General.{colors_are_general as proved}
use Rattle.color_units.proofs.colors_are_general.Goals as goal

pub returns : goal.returns
returns c = proved c.said_is_limited.ensures c.general_bits_are_a_sum.ensures
