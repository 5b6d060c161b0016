use Rattle.std.proofs.Common.{◌≡◌, ◌++◌, ◌-◌, replicate}
use Rattle.naive_data.proofs.values.push_zeros.Given as goal

abbrev pub invariant-loop : goal.invariant-loop
invariant-loop l = l.bytes ++ replicate (l.count - l.counter) 0 ≡ l.fn.bytes ++ replicate l.count 0
