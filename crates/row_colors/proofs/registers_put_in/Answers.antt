use Rattle.row_colors.proofs.Registers.{put_in as law}
use Rattle.row_colors.proofs.registers_put_in.Goals as goal

pub returns : goal.returns
returns c = law c.said_is_sound.ensures c.said_is_bounded.ensures
