use Rattle.naive_live.proofs.Functions.{functions_live}
use Rattle.naive_live.proofs.laws.functions_live.Goals as goal

pub returns : goal.returns
returns c = functions_live
