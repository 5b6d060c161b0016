use Rattle.cc_text.proofs.Judging.{word_is, checked, text_refused, typing_refused, typed_source}
use Rattle.cc_text.proofs.sources.typed_tree.Goals as goal

pub returns-in-Err-clause-refused : goal.returns-in-Err-clause-refused
returns-in-Err-clause-refused g c = text_refused _ _ _ c.in-Err.ensures.refused

pub returns-in-Ok-type_program-clause-typed : goal.returns-in-Ok-type_program-clause-typed
returns-in-Ok-type_program-clause-typed g c =
    typed_source c.args.m.now _ _ _ _ (word_is _ c.args.m.now (checked _ _ _ c.raw.ensures.description c.raw.ensures.checked)) c.in-Ok.ensures.found c.in-Ok-type_program.ensures.typed

pub returns-clause-refused : goal.returns-clause-refused
returns-clause-refused g c =
    typing_refused c.args.m.now _ _ _ _ (word_is _ c.args.m.now (checked _ _ _ c.raw.ensures.description c.raw.ensures.checked)) c.in-Ok.ensures.found c.in-Err-type_program.ensures.refused
