use Rattle.c_meaning.proofs.WorkedRuns.{conversions}
use Rattle.c_meaning.proofs.worked.conversions.Goals as goal

pub returns : goal.returns
returns c = conversions
