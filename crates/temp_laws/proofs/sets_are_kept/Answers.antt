use Rattle.temp_laws.proofs.Names.{sets_are_kept as law}
use Rattle.temp_laws.proofs.sets_are_kept.Goals as goal

pub returns : goal.returns
returns c = law c.said_is_sound.ensures c.said_is_bounded.ensures
