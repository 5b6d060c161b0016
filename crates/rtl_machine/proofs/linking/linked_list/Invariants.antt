use Rattle.std.proofs.Common.{◌≡◌, map, take}
use Rattle.rtl_machine.specs.Loading.{link_in}
use Rattle.rtl_machine.proofs.linking.linked_list.Given as goal

abbrev pub invariant-loop-value : goal.invariant-loop-value
invariant-loop-value l = l.made.items ≡ map (link_in l.p.symbols l.p.labels) (take l.value-index l.list)
