use Rattle.std.proofs.Common.{arith}
use Rattle.naive_builder.proofs.coverage.flag_for.Goals as goal

pub returns : goal.returns
returns c = λ d rows j flag. c.loop-flag.invariant d rows j (omega (arith, flag.is_flag, c.loop-flag-test.false)) flag
