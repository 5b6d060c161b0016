use Rattle.c_meaning.proofs.WorkedRuns.{orders}
use Rattle.c_meaning.proofs.worked.orders.Goals as goal

pub returns : goal.returns
returns c = orders
