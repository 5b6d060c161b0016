use Rattle.row_laws.proofs.Formed.{realised_formed as law}
use Rattle.row_laws.proofs.realised_are_formed.Goals as goal

pub returns : goal.returns
returns c = law c.said_is_sound.ensures c.said_is_bounded.ensures
