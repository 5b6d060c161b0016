use Rattle.row_colors.proofs.Calm.{bodies_calm as law}
use Rattle.row_colors.proofs.bodies_are_calm.Goals as goal

pub returns : goal.returns
returns c = law c.said_is_sound.ensures c.said_is_bounded.ensures
