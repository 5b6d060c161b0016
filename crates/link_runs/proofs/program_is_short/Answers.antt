use Rattle.link_runs.proofs.Sizes.{short}
use Rattle.link_runs.proofs.program_is_short.Goals as goal

pub returns : goal.returns
returns c = short c.said_is_sound.ensures
