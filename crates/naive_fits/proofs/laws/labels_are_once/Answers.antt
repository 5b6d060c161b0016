use Rattle.naive_fits.proofs.FunctionLabels.{labels_are_once}
use Rattle.naive_fits.proofs.laws.labels_are_once.Goals as goal

pub returns : goal.returns
returns c = labels_are_once
