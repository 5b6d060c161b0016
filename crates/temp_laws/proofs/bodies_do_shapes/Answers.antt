use Rattle.temp_laws.proofs.Doing.{bodies_done as law}
use Rattle.temp_laws.proofs.bodies_do_shapes.Goals as goal

pub returns : goal.returns
returns c = law c.said_is_sound.ensures c.said_is_bounded.ensures
