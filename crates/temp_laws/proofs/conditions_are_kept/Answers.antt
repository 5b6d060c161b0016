use Rattle.temp_laws.proofs.Conditions.{conditions_kept}
use Rattle.temp_laws.proofs.conditions_are_kept.Goals as goal

pub returns : goal.returns
returns c = conditions_kept c.said_is_sound.ensures c.said_is_limited.ensures c.said_is_bounded.ensures c.general_bits_are_a_sum.ensures
