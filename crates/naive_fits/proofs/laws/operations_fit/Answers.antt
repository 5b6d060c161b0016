use Rattle.naive_fits.proofs.FunctionsFit.{operations_fit}
use Rattle.naive_fits.proofs.laws.operations_fit.Goals as goal

pub returns : goal.returns
returns c = operations_fit
