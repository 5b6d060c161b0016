use Rattle.c_helper_trees.proofs.Calls.{helpers_take_nothing}
use Rattle.c_helper_trees.proofs.laws.helpers_take_nothing.Goals as goal

pub returns : goal.returns
returns c = helpers_take_nothing
