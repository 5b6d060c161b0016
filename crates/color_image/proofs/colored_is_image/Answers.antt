use Rattle.color_image.proofs.Images.{colored_is_image as proved}
use Rattle.color_image.proofs.colored_is_image.Goals as goal

pub returns : goal.returns
returns c = proved
