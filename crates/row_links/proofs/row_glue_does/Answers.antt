use Rattle.row_links.proofs.Glue.{row_glue as law}
use Rattle.row_links.proofs.row_glue_does.Goals as goal

pub returns : goal.returns
returns c = law c.said_is_sound.ensures c.said_is_bounded.ensures
