use Rattle.std.proofs.Common.{◌≡◌, ◌+◌, ◌<◌, ◌^◌, drop}
use Rattle.c_limits.specs.Sums.{capped}
use Rattle.c_limits.specs.Frames.{arrays}
use Rattle.c_limits.proofs.frame.arrays.Given as goal

abbrev pub invariant-loop-o : goal.invariant-loop-o
invariant-loop-o g l = (l.sum < 2 ^ 64) × (capped (l.sum + arrays g.W.Word.BITS (drop l.o-index l.objects)) ≡ capped (arrays g.W.Word.BITS l.objects))
