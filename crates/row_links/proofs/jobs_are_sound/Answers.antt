use Rattle.row_links.proofs.Jobs.{jobs_sound as law}
use Rattle.row_links.proofs.jobs_are_sound.Goals as goal

pub returns : goal.returns
returns c = law c.said_is_sound.ensures c.said_is_limited.ensures c.said_is_bounded.ensures c.general_bits_are_a_sum.ensures
