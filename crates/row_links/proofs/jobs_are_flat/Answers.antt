use Rattle.row_links.proofs.Flat.{jobs_flat as law}
use Rattle.row_links.proofs.jobs_are_flat.Goals as goal

pub returns : goal.returns
returns c = law c.said_is_sound.ensures c.said_is_bounded.ensures
