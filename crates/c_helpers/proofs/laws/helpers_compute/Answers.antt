use Rattle.c_helpers.proofs.Whole.{helpers_compute}
use Rattle.c_helpers.proofs.laws.helpers_compute.Goals as goal

pub returns : goal.returns
returns c = helpers_compute
