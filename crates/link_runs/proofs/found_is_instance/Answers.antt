use Rattle.link_runs.proofs.Found.{found_instance}
use Rattle.link_runs.proofs.found_is_instance.Goals as goal

pub returns : goal.returns
returns c = found_instance c.said_is_sound.ensures c.said_is_limited.ensures c.said_is_bounded.ensures c.general_bits_are_a_sum.ensures
