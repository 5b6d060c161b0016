use Rattle.std.proofs.Common.{◌≡◌, ◌++◌, ◌-◌}
use Rattle.std.specs.List.{flat_map, range_with_len}
use Rattle.naive_run.specs.Law.{element_count}
use Rattle.naive_data.specs.Layout.{element_data}
use Rattle.naive_data.proofs.values.push_elements.Given as goal

abbrev pub invariant-loop-i : goal.invariant-loop-i
invariant-loop-i g l =
    l.bytes ++ flat_map (element_data g.W.Word.BITS l.s) (range_with_len l.i (element_count l.s.object - l.i))
    ≡ l.fn.bytes ++ flat_map (element_data g.W.Word.BITS l.s) (range_with_len 0 (element_count l.s.object))
