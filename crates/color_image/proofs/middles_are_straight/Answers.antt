use Rattle.color_image.proofs.Transfers.{straight_on}
use Rattle.color_image.proofs.middles_are_straight.Goals as goal

pub returns : goal.returns
returns c = straight_on
