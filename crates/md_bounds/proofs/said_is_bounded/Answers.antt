use Rattle.md_bounds.proofs.Whole.{said_bounded}
use Rattle.md_bounds.proofs.said_is_bounded.Goals as goal

pub returns : goal.returns
returns c = said_bounded
