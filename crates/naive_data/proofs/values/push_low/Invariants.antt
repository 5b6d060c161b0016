use Rattle.std.proofs.Common.{◌≡◌, ◌++◌, drop}
use Rattle.naive_data.proofs.values.push_low.Given as goal

abbrev pub invariant-loop-byte : goal.invariant-loop-byte
invariant-loop-byte l = l.bytes ++ drop l.byte-index l.low ≡ l.fn.bytes ++ l.low
