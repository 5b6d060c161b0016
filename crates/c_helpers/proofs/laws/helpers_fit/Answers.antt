use Rattle.c_helpers.proofs.Whole.{helpers_fit}
use Rattle.c_helpers.proofs.laws.helpers_fit.Goals as goal

pub returns : goal.returns
returns c = helpers_fit
