use Rattle.c_lowering.proofs.Holding.{none_is_left}
use Rattle.c_lowering.proofs.laws.none_is_left.Goals as goal

pub returns : goal.returns
returns c = none_is_left
