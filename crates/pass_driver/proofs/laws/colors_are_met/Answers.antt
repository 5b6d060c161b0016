use Rattle.pass_driver.proofs.Codes.{colors_are_met as proved}
use Rattle.pass_driver.proofs.laws.colors_are_met.Goals as goal

pub returns : goal.returns
returns c = proved (record {
  formed = c.realised_are_formed.ensures;
  bodies = c.bodies_are_calm.ensures;
  shapes = c.shapes_are_calm.ensures;
  does = c.calm_does.ensures;
  names = c.names_are_shapes.ensures;
  targets = c.targets_are_sound.ensures;
})
