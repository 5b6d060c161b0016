use Rattle.row_colors.proofs.Spilling.{stores as law}
use Rattle.row_colors.proofs.stores_do.Goals as goal

pub returns : goal.returns
returns c = law c.said_is_sound.ensures c.said_is_bounded.ensures
