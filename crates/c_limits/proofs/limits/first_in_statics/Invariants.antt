use Rattle.std.proofs.Common.{◌≡◌, drop}
use Rattle.c_limits.specs.Limits.{static_faults}
use Rattle.c_limits.specs.First.{first_of}
use Rattle.c_limits.proofs.limits.first_in_statics.Given as goal

abbrev pub invariant-loop-i : goal.invariant-loop-i
invariant-loop-i g l = first_of l.first (static_faults g.W.Word.BITS l.room l.i l.sum (drop l.i l.statics)) ≡ first_of l.fn.first (static_faults g.W.Word.BITS l.room 0 0 l.statics)
