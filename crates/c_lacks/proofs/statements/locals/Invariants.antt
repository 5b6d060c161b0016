use Rattle.std.proofs.Common.{◌≡◌, drop}
use Rattle.c_typing.specs.Faults.{notes}
use Rattle.c_lacks.specs.Operators.{has_in}
use Rattle.c_lacks.specs.Lacks.{locals_lack}
use Rattle.c_lacks.proofs.statements.locals.Given as goal

abbrev pub invariant-loop-l : goal.invariant-loop-l
invariant-loop-l l =
    notes l.told.first (locals_lack (has_in l.set.covered) (drop l.l-index l.declared)) ≡ notes l.fn.told.first (locals_lack (has_in l.set.covered) l.declared)
