use Rattle.naive_forms.proofs.Transfers.{AreLaws}
use Rattle.naive_forms.proofs.Functions.{built_is_tidy}
use Rattle.naive_forms.proofs.laws.built_is_tidy.Goals as goal

pub returns : goal.returns
returns c =
    let laws : AreLaws = record {
      conditions = c.conditions_are_kept.ensures;
      names = c.names_are_shapes.ensures;
      sets = c.sets_are_shapes.ensures;
      kept = c.sets_are_kept.ensures;
      jumps = c.jumps_go.ensures;
      branches = c.branches_go.ensures;
      flag_branches = c.flag_branches_go.ensures;
      calls = c.calls_go.ensures;
    } in
    built_is_tidy laws
