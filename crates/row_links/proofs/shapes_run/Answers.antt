use Rattle.row_links.proofs.Glue.{shapes as law}
use Rattle.row_links.proofs.shapes_run.Goals as goal

pub returns : goal.returns
returns c = law c.said_is_sound.ensures c.said_is_bounded.ensures
