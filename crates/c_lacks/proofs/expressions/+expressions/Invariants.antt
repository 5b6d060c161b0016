use Rattle.std.proofs.Common.{◌≡◌, drop}
use Rattle.c_typing.specs.Faults.{notes}
use Rattle.c_lacks.specs.Operators.{has_in}
use Rattle.c_lacks.specs.Lacks.{list_lacks}
use Rattle.c_lacks.proofs.expressions.+expressions.Given as goal

abbrev pub invariant-list-loop-e : goal.invariant-list-loop-e
invariant-list-loop-e l =
    notes l.told.first (list_lacks (has_in l.set.covered) (drop l.e-index l.es)) ≡ notes l.fn.told.first (list_lacks (has_in l.set.covered) l.es)
