use Rattle.std.proofs.Common.{◌≡◌, take}
use Rattle.temp_code.proofs.copies.copy_list.Given as goal

abbrev pub invariant-loop-assign : goal.invariant-loop-assign
invariant-loop-assign l = l.list.items ≡ take l.assign-index l.assigns
