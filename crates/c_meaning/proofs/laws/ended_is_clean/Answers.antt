use Rattle.c_meaning.proofs.Runs.{ended_is_clean}
use Rattle.c_meaning.proofs.laws.ended_is_clean.Goals as goal

pub returns : goal.returns
returns c = ended_is_clean
