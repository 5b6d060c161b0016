use Rattle.c_meaning.proofs.WorkedRuns.{call_acts}
use Rattle.c_meaning.proofs.worked.call_acts.Goals as goal

pub returns : goal.returns
returns c = call_acts
