use Rattle.std.proofs.Common.{arith, ◌<◌, length}
use Rattle.c_limits.proofs.Passed.{after_function}
use Rattle.c_limits.proofs.limits.first_in_functions.Goals as goal

pub loop-f-preserved : goal.loop-f-preserved
loop-f-preserved g c =
    after_function _ _ _ _ _ _ _ _ _ _ _ _ _ c.loop-f-test.true c.f-item.is c.weight_of-weight.ensures c.saturating_add-sum.ensures
    c.has_large_frame.ensures c.noted_if-first.ensures c.is_too_heavy.ensures c.noted_if-first-in-loop-f.ensures c.loop-f.invariant
