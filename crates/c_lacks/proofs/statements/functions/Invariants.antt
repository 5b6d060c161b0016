use Rattle.std.proofs.Common.{◌≡◌, drop}
use Rattle.c_typing.specs.Faults.{notes}
use Rattle.c_lacks.specs.Operators.{has_in}
use Rattle.c_lacks.specs.Lacks.{functions_lack}
use Rattle.c_lacks.proofs.statements.functions.Given as goal

abbrev pub invariant-loop-f : goal.invariant-loop-f
invariant-loop-f l =
    notes l.told.first (functions_lack (has_in l.set.covered) (drop l.f-index l.functions)) ≡ notes l.fn.told.first (functions_lack (has_in l.set.covered) l.functions)
