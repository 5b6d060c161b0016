use Rattle.naive_live.proofs.Sound.{functions_are_sound}
use Rattle.naive_live.proofs.laws.functions_are_sound.Goals as goal

pub returns : goal.returns
returns c = functions_are_sound
