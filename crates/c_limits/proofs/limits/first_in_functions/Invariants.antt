use Rattle.std.proofs.Common.{◌≡◌, None, [], drop}
use Rattle.c_limits.specs.Limits.{function_faults}
use Rattle.c_limits.specs.First.{first_of}
use Rattle.c_limits.proofs.limits.first_in_functions.Given as goal

abbrev pub invariant-loop-f : goal.invariant-loop-f
invariant-loop-f g l = first_of l.first (function_faults [] g.W.Word.BITS l.sum (drop l.f-index l.functions)) ≡ first_of None (function_faults [] g.W.Word.BITS 0 l.functions)
