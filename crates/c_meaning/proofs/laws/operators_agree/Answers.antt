use Rattle.c_meaning.proofs.Agreement.{operators_agree}
use Rattle.c_meaning.proofs.laws.operators_agree.Goals as goal

pub returns : goal.returns
returns c = operators_agree
