use Rattle.std.proofs.Common.{◌≡◌, ◌+◌, ◌≤◌, drop}
use Rattle.c_limits.specs.Frames.{scalars}
use Rattle.c_limits.proofs.frame.scalars.Given as goal

abbrev pub invariant-loop-o : goal.invariant-loop-o
invariant-loop-o l = (l.count ≤ l.o-index) × (l.count + scalars (drop l.o-index l.objects) ≡ scalars l.objects)
