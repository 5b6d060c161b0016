use Rattle.c_helper_trees.proofs.Calls.{helper_calls}
use Rattle.c_helper_trees.proofs.laws.helper_calls.Goals as goal

pub returns : goal.returns
returns c = helper_calls
