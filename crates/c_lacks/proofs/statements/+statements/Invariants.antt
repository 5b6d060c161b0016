use Rattle.std.proofs.Common.{◌≡◌, drop}
use Rattle.c_typing.specs.Faults.{notes}
use Rattle.c_lacks.specs.Operators.{has_in}
use Rattle.c_lacks.specs.Lacks.{block_lacks}
use Rattle.c_lacks.proofs.statements.+statements.Given as goal

abbrev pub invariant-block-loop-s : goal.invariant-block-loop-s
invariant-block-loop-s l =
    notes l.told.first (block_lacks (has_in l.set.covered) (drop l.s-index l.ss)) ≡ notes l.fn.told.first (block_lacks (has_in l.set.covered) l.ss)
