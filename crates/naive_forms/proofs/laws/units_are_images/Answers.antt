use Rattle.naive_forms.proofs.Transfers.{AreLaws}
use Rattle.naive_forms.proofs.Functions.{AreCounted}
use Rattle.naive_forms.proofs.Images.{units_are_images}
use Rattle.naive_forms.proofs.laws.units_are_images.Goals as goal

pub returns : goal.returns
returns c =
    let laws : AreLaws = record {
      conditions = c.conditions_are_kept.ensures;
      names = c.names_are_shapes.ensures;
      sets = c.sets_are_shapes.ensures;
      kept = c.sets_are_kept.ensures;
      jumps = c.jumps_go.ensures;
      branches = c.branches_go.ensures;
      flag_branches = c.flag_branches_go.ensures;
      calls = c.calls_go.ensures;
    } in
    let counts : AreCounted = record {
      ways = c.ways_are_counted.ensures;
      homes = c.homes_are_slots.ensures;
      weight = c.returns_are_within_weight.ensures;
    } in
    units_are_images laws counts c.targets_are_sound.ensures
