use Rattle.row_colors.proofs.Calm.{rows_calm as law}
use Rattle.row_colors.proofs.rows_are_calm.Goals as goal

pub returns : goal.returns
returns c = law c.said_is_sound.ensures c.said_is_bounded.ensures
