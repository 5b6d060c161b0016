use Rattle.link_runs.proofs.Glue.{glue}
use Rattle.link_runs.proofs.glue_is_of_rows.Goals as goal

pub returns : goal.returns
returns c = glue c.found_is_instance.ensures
