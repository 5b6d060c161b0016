use Rattle.cc_text.specs.Sources.{IsRefusedFor}
use Rattle.cc_text.proofs.sources.accepted_tree.Goals as goal

pub returns-in-Err-keeps_limits-clause-refused : goal.returns-in-Err-keeps_limits-clause-refused
returns-in-Err-keeps_limits-clause-refused g c = IsRefusedFor.by_limits _ c.in-Ok.ensures.typed c.in-Err-keeps_limits.ensures.refused

pub returns-in-Err-has_operators-clause-refused : goal.returns-in-Err-has_operators-clause-refused
returns-in-Err-has_operators-clause-refused g c =
    IsRefusedFor.by_operators _ c.in-Ok.ensures.typed c.in-Ok-keeps_limits.ensures.within c.in-Err-has_operators.ensures.lacking
