use Rattle.color_renaming.proofs.Doing.{renamed_does as proved}
use Rattle.color_renaming.proofs.renamed_does.Goals as goal

pub returns : goal.returns
returns c = proved
