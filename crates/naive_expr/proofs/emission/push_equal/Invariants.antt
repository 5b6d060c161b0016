use Rattle.std.proofs.Common.{◌≡◌, ◌++◌, ◌-◌, replicate}
use Rattle.naive_expr.proofs.emission.push_equal.Given as goal

abbrev pub invariant-loop : goal.invariant-loop
invariant-loop l = l.list ++ replicate (l.count - l.counter) l.item ≡ l.fn.list ++ replicate l.count l.item
