use Rattle.std.proofs.Common.{◌≡◌, ◌+◌, ◌≤◌, drop}
use Rattle.c_limits.specs.Frames.{scalars}
use Rattle.naive_stat.proofs.functions.scalars_in.Given as goal

abbrev pub invariant-loop-object : goal.invariant-loop-object
invariant-loop-object l = (l.count ≤ l.object-index) × (l.count + scalars (drop l.object-index l.objects) ≡ scalars l.objects)
