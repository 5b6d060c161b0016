use Rattle.link_code.proofs.Sound.{sound_is_linkable as proved}
use Rattle.link_code.proofs.laws.sound_image_is_linkable.Goals as goal

pub returns : goal.returns
returns c = proved
