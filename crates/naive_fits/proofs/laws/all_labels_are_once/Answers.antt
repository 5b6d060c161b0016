use Rattle.naive_fits.proofs.FunctionLabels.{all_labels_are_once}
use Rattle.naive_fits.proofs.laws.all_labels_are_once.Goals as goal

pub returns : goal.returns
returns c = all_labels_are_once
