use Rattle.std.proofs.Common.{arith, ◌<◌, length}
use Rattle.c_limits.proofs.Passed.{after_static}
use Rattle.c_limits.proofs.limits.first_in_statics.Goals as goal

pub loop-i-preserved : goal.loop-i-preserved
loop-i-preserved g c =
    after_static _ _ c.requires _ _ _ _ _ _ _ _ _ _ c.loop-i-test.true c.index-statics-i.is c.object_bytes.ensures.bytes c.saturating_add-sum.ensures
    c.are_too_many.ensures c.noted_if-first.ensures c.loop-i.invariant
