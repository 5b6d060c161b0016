use Rattle.c_meaning.proofs.WorkedRuns.{operator_acts}
use Rattle.c_meaning.proofs.worked.operator_acts.Goals as goal

pub returns : goal.returns
returns c = operator_acts
