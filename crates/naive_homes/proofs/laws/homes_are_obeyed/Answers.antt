use Rattle.naive_homes.proofs.Homes.{homes_are_obeyed}
use Rattle.naive_homes.proofs.laws.homes_are_obeyed.Goals as goal

pub returns : goal.returns
returns c =
    homes_are_obeyed (record {
      reads = c.reads_are_shapes.ensures;
      sets = c.sets_are_shapes.ensures;
      kept = c.sets_are_kept.ensures;
      names = c.names_are_shapes.ensures;
      flags = c.flags_are_shapes.ensures;
      jumps = c.jumps_go.ensures;
      branches = c.branches_go.ensures;
      flag_branches = c.flag_branches_go.ensures;
    })
    c.functions_live.ensures
