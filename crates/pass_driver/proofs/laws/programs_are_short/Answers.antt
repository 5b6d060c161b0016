use Rattle.pass_driver.proofs.Linking.{programs_are_short as proved}
use Rattle.pass_driver.proofs.laws.programs_are_short.Goals as goal

pub returns : goal.returns
returns c = proved (record {
  codes = record {
    formed = c.realised_are_formed.ensures;
    bodies = c.bodies_are_calm.ensures;
    shapes = c.shapes_are_calm.ensures;
    does = c.calm_does.ensures;
    names = c.names_are_shapes.ensures;
    targets = c.targets_are_sound.ensures;
  };
  general = c.colors_are_general.ensures;
  decided = c.liveness_is_decided.ensures;
}) c.colored_is_small.ensures c.rooms_are_enough.ensures
