use Rattle.temp_laws.proofs.Going.{jumps_go as law}
use Rattle.temp_laws.proofs.jumps_go.Goals as goal

pub returns : goal.returns
returns c = law c.said_is_sound.ensures c.said_is_bounded.ensures
