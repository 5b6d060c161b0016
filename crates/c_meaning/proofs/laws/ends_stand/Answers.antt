use Rattle.c_meaning.proofs.Runs.{ends_stand}
use Rattle.c_meaning.proofs.laws.ends_stand.Goals as goal

pub returns : goal.returns
returns c = ends_stand
