use Rattle.c_meaning.proofs.Runs.{failures_stand}
use Rattle.c_meaning.proofs.laws.failures_stand.Goals as goal

pub returns : goal.returns
returns c = failures_stand
