use Rattle.c_lacks.specs.Operators.{has_in}
use Rattle.cc_text.proofs.sources.has_operators.Goals as goal

pub returns-in-Ok-clause-there : goal.returns-in-Ok-clause-there
returns-in-Ok-clause-there g c = record {
  has = has_in c.operators-set.result.covered;
  operators = c.sets_are_operators.ensures _ _ c.operators-set.ensures;
  lacks_none = c.in-Ok.ensures.there;
}

pub returns-in-Err-clause-lacking : goal.returns-in-Err-clause-lacking
returns-in-Err-clause-lacking g c = record {
  has = has_in c.operators-set.result.covered;
  operators = c.sets_are_operators.ensures _ _ c.operators-set.ensures;
  first = c.in-Err.ensures.lacking;
}
