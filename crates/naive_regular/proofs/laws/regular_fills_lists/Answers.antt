use Rattle.naive_regular.proofs.Fits.{regular_fills_lists}
use Rattle.naive_regular.proofs.laws.regular_fills_lists.Goals as goal

pub returns : goal.returns
returns c = regular_fills_lists
