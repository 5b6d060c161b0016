use Rattle.c_lowering.proofs.Whole.{lowered_does_the_same}
use Rattle.c_lowering.proofs.laws.lowered_does_the_same.Goals as goal

pub returns : goal.returns
returns c = lowered_does_the_same
