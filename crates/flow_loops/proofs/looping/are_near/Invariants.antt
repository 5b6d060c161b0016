use Rattle.std.specs.Prelude.{◌≡◌, drop}
use Rattle.std.specs.List.{list_all}
use Rattle.flow_loops.specs.Looping.{is_near}
use Rattle.flow_loops.proofs.looping.are_near.Given as goal

abbrev pub invariant-loop-i : goal.invariant-loop-i
invariant-loop-i l = list_all (is_near l.first l.last) (drop l.i l.blocks) ≡ list_all (is_near l.first l.last) l.blocks
