use Rattle.naive_fits.proofs.FunctionLabels.{labels_are_own}
use Rattle.naive_fits.proofs.laws.labels_are_own.Goals as goal

pub returns : goal.returns
returns c = labels_are_own
