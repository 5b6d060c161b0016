use Rattle.c_meaning.proofs.Runs.{source_is_run}
use Rattle.c_meaning.proofs.laws.source_is_run.Goals as goal

pub returns : goal.returns
returns c = source_is_run
