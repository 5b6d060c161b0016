use Rattle.c_meaning.proofs.Runs.{output_grows}
use Rattle.c_meaning.proofs.laws.output_grows.Goals as goal

pub returns : goal.returns
returns c = output_grows
