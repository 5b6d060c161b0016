use Rattle.pass_driver.proofs.Composed.{compiled_is_same as proved}
use Rattle.pass_driver.proofs.laws.compiled_is_same.Goals as goal

pub returns : goal.returns
returns c = proved (record {
  kept = c.units_are_kept.ensures;
  linkable = c.units_are_linkable.ensures;
  short = c.programs_are_short.ensures;
  linked = c.linked_units_keep.ensures;
  transitive = c.keep_is_transitive.ensures;
  keeps = c.keep_keeps_same.ensures;
})
