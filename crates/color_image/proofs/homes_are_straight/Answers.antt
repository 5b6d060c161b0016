use Rattle.color_image.proofs.Rows.{homes_straight}
use Rattle.color_image.proofs.homes_are_straight.Goals as goal

pub returns : goal.returns
returns c = homes_straight c.sets_are_shapes.ensures c.targets_are_sound.ensures
