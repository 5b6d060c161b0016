use Rattle.naive_forms.proofs.Transfers.{AreLaws}
use Rattle.naive_forms.proofs.Functions.{AreCounted, functions_are_sound}
use Rattle.naive_forms.proofs.laws.functions_are_sound.Goals as goal

pub returns : goal.returns
returns c =
    let laws : AreLaws = record {
      conditions = c.conditions_are_kept.ensures;
      names = c.names_are_shapes.ensures;
      sets = c.sets_are_shapes.ensures;
      kept = c.sets_are_kept.ensures;
      jumps = c.jumps_go.ensures;
      branches = c.branches_go.ensures;
      flag_branches = c.flag_branches_go.ensures;
      calls = c.calls_go.ensures;
    } in
    let counts : AreCounted = record {
      ways = c.ways_are_counted.ensures;
      homes = c.homes_are_slots.ensures;
      weight = c.returns_are_within_weight.ensures;
    } in
    functions_are_sound laws counts c.targets_are_sound.ensures
