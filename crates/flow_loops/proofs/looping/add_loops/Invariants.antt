use Rattle.std.specs.Prelude.{◌≡◌, ◌++◌, drop, map}
use Rattle.std.specs.List.{filter}
use Rattle.flow_loops.specs.Looping.{closes_loop, mark, marks_at}
use Rattle.flow_loops.proofs.looping.add_loops.Given as goal

abbrev pub invariant-loop-i : goal.invariant-loop-i
invariant-loop-i l =
    l.marks.items ++ map (mark l.first) (filter (closes_loop l.f l.first) (drop l.i l.ends)) ≡ l.fn.marks.items ++ marks_at l.f l.first
