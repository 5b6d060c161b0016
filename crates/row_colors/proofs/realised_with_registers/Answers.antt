use Rattle.row_colors.proofs.Registers.{realised_put_in as law}
use Rattle.row_colors.proofs.realised_with_registers.Goals as goal

pub returns : goal.returns
returns c = law c.said_is_sound.ensures c.said_is_bounded.ensures
