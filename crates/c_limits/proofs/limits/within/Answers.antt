use Rattle.std.proofs.Common.{◌∙◌}
use Rattle.c_limits.proofs.Earliest.{first_is_first, none_is_empty}
use Rattle.c_limits.proofs.Passed.{judged}
use Rattle.c_limits.proofs.limits.within.Goals as goal

pub returns-in-None-clause-within : goal.returns-in-None-clause-within
returns-in-None-clause-within g c =
    none_is_empty _ (judged g.W.Word.BITS _ _ c.args.t.now _ _ _ _ c.from-room.ensures c.as_slice.ensures c.as_slice-2.ensures c.first_in_functions-first.ensures c.first_in_statics.ensures ∙ c.in-None.is)

pub returns-in-Some-clause-refused : goal.returns-in-Some-clause-refused
returns-in-Some-clause-refused g c =
    first_is_first _ _ (judged g.W.Word.BITS _ _ c.args.t.now _ _ _ _ c.from-room.ensures c.as_slice.ensures c.as_slice-2.ensures c.first_in_functions-first.ensures c.first_in_statics.ensures ∙ c.in-Some.is)
