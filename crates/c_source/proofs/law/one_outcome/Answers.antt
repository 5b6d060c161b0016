use Rattle.c_source.proofs.Outcomes.{one_outcome}
use Rattle.c_source.proofs.law.one_outcome.Goals as goal

pub returns : goal.returns
returns c = one_outcome c.one_outcome.ensures c.unique.ensures c.one_refusal.ensures c.spelled_or_refused.ensures.never_both
