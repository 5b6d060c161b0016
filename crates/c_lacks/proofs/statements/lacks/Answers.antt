use Rattle.c_lacks.specs.Operators.{has_in}
use Rattle.c_lacks.proofs.Telling.{told_first}
use Rattle.c_lacks.proofs.statements.lacks.Goals as goal

pub returns-in-Some-clause-lacking : goal.returns-in-Some-clause-lacking
returns-in-Some-clause-lacking c =
    told_first c.first_is_told.ensures (has_in c.args.set.covered) c.args.t.now _ _ c.in-Some.fault c.as_slice.ensures c.functions.ensures c.in-Some.is
