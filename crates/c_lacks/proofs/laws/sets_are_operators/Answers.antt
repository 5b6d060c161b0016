use Rattle.c_lacks.proofs.Sets.{are_operators}
use Rattle.c_lacks.proofs.laws.sets_are_operators.Goals as goal

pub returns : goal.returns
returns c = are_operators
