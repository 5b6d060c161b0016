use Rattle.color_holding.proofs.Bodies.{body_keeps as proved}
use Rattle.color_holding.proofs.body_keeps.Goals as goal

pub returns : goal.returns
returns c = proved
