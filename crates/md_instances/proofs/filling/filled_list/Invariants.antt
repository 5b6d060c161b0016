use Rattle.std.proofs.Common.{◌≡◌, map, take}
use Rattle.md_rows.specs.Instances.{filled_move}
use Rattle.md_instances.proofs.filling.filled_list.Given as goal

abbrev pub invariant-loop-assign : goal.invariant-loop-assign
invariant-loop-assign l = l.made.items ≡ map (filled_move l.binding) (take l.assign-index l.list)
