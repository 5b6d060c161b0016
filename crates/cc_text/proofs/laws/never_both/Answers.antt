use Rattle.cc_text.proofs.Exclusive.{never_both}
use Rattle.cc_text.proofs.laws.never_both.Goals as goal

pub returns : goal.returns
returns c = never_both c.one_outcome.ensures
