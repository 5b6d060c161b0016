use Rattle.c_lacks.proofs.Usable.{usable}
use Rattle.c_lacks.proofs.laws.operators_are_there.Goals as goal

pub returns : goal.returns
returns c = usable
