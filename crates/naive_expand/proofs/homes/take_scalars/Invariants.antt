use Rattle.std.proofs.Common.{◌≡◌, ◌+◌, ◌-◌, ◌++◌}
use Rattle.naive_code.specs.Functions.{numbers_from}
use Rattle.naive_builder.specs.Appending.{emitted}
use Rattle.naive_expand.proofs.homes.take_scalars.Given as goal

abbrev pub invariant-loop-i : goal.invariant-loop-i
invariant-loop-i l = (l.b.homes ++ numbers_from (16 + l.i) (l.count - l.i) ≡ l.fn.b.homes ++ numbers_from 16 l.count) × (emitted l.b ≡ emitted l.fn.b)
