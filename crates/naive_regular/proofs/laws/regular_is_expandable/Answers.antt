use Rattle.naive_regular.proofs.Fits.{regular_is_expandable}
use Rattle.naive_regular.proofs.laws.regular_is_expandable.Goals as goal

pub returns : goal.returns
returns c = regular_is_expandable
