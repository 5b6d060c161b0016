use Rattle.md_said.proofs.Whole.{said_sound}
use Rattle.md_said.proofs.said_is_sound.Goals as goal

pub returns : goal.returns
returns c = said_sound
