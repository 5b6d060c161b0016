use Rattle.c_lacks.proofs.Present.{none_is_lacked}
use Rattle.c_lacks.proofs.laws.none_is_lacked.Goals as goal

pub returns : goal.returns
returns c = none_is_lacked
