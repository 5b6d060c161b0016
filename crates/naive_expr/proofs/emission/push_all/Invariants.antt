use Rattle.std.proofs.Common.{◌≡◌, ◌++◌, drop}
use Rattle.naive_expr.proofs.emission.push_all.Given as goal

abbrev pub invariant-loop-item : goal.invariant-loop-item
invariant-loop-item l = l.list ++ drop l.item-index l.more ≡ l.fn.list ++ l.more
