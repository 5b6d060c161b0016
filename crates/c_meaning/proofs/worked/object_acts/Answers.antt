use Rattle.c_meaning.proofs.WorkedRuns.{object_acts}
use Rattle.c_meaning.proofs.worked.object_acts.Goals as goal

pub returns : goal.returns
returns c = object_acts
