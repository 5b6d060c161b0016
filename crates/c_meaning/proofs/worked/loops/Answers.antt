use Rattle.c_meaning.proofs.WorkedRuns.{loops}
use Rattle.c_meaning.proofs.worked.loops.Goals as goal

pub returns : goal.returns
returns c = loops
