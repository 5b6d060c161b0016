use Rattle.temp_laws.proofs.Targets.{targets_sound}
use Rattle.temp_laws.proofs.targets_are_sound.Goals as goal

pub returns : goal.returns
returns c = targets_sound c.said_is_sound.ensures c.said_is_limited.ensures c.said_is_bounded.ensures c.general_bits_are_a_sum.ensures
