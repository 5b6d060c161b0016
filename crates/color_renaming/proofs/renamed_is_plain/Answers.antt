use Rattle.color_renaming.proofs.Plain.{renamed_is_plain as proved}
use Rattle.color_renaming.proofs.renamed_is_plain.Goals as goal

pub returns : goal.returns
returns c = proved
