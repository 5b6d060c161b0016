use Rattle.temp_laws.proofs.Names.{names_are_shapes as law}
use Rattle.temp_laws.proofs.names_are_shapes.Goals as goal

pub returns : goal.returns
returns c = law c.said_is_sound.ensures c.said_is_bounded.ensures
