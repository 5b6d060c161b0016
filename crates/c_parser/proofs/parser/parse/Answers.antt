use Rattle.c_parser.proofs.Parsed.{ok_found, ok_only, is_wrong, is_deep, wrong_only, deep_only, wrong_refused, deep_refused, wrong_some, wrong_within, deep_some, deep_within}
use Rattle.c_parser.proofs.parser.parse.Goals as goal

pub reason-requires-clause-some : goal.reason-requires-clause-some
reason-requires-clause-some c = wrong_some _ _ _ _ c.as_slice-tokens.ensures.value c.requires (is_wrong _ _ _ c.in-Err-Wrong.field-0-is c.in-Err-Wrong.ensures.reads)

pub reason-requires-clause-within : goal.reason-requires-clause-within
reason-requires-clause-within c = wrong_within _ _ _ _ c.as_slice-tokens.ensures.value c.requires (is_wrong _ _ _ c.in-Err-Wrong.field-0-is c.in-Err-Wrong.ensures.reads)

pub reason-requires-in-Err-Deep-clause-some : goal.reason-requires-in-Err-Deep-clause-some
reason-requires-in-Err-Deep-clause-some c = deep_some _ _ _ (is_deep _ _ _ c.in-Err-Deep.field-0-is c.in-Err-Deep.ensures.reads)

pub reason-requires-in-Err-Deep-clause-within : goal.reason-requires-in-Err-Deep-clause-within
reason-requires-in-Err-Deep-clause-within c = deep_within _ _ _ (is_deep _ _ _ c.in-Err-Deep.field-0-is c.in-Err-Deep.ensures.reads)

pub returns-in-Ok-clause-found : goal.returns-in-Ok-clause-found
returns-in-Ok-clause-found c = ok_found _ _ _ _ c.as_slice-tokens.ensures.value c.requires c.in-Ok.ensures.reads

pub returns-in-Ok-clause-only : goal.returns-in-Ok-clause-only
returns-in-Ok-clause-only c tree s = ok_only _ _ _ _ c.as_slice-tokens.ensures.value c.in-Ok.ensures.reads tree s

pub returns-in-Err-Wrong-clause-only : goal.returns-in-Err-Wrong-clause-only
returns-in-Err-Wrong-clause-only c tree s = wrong_only _ _ _ _ c.as_slice-tokens.ensures.value (is_wrong _ _ _ c.in-Err-Wrong.field-0-is c.in-Err-Wrong.ensures.reads) tree s

pub returns-in-Err-Wrong-clause-refused : goal.returns-in-Err-Wrong-clause-refused
returns-in-Err-Wrong-clause-refused c = wrong_refused _ _ _ _ _ c.as_slice-tokens.ensures.value c.requires (is_wrong _ _ _ c.in-Err-Wrong.field-0-is c.in-Err-Wrong.ensures.reads) c.reason.ensures

pub returns-in-Err-Deep-clause-only : goal.returns-in-Err-Deep-clause-only
returns-in-Err-Deep-clause-only c tree s = deep_only _ _ _ _ c.as_slice-tokens.ensures.value (is_deep _ _ _ c.in-Err-Deep.field-0-is c.in-Err-Deep.ensures.reads) tree s

pub returns-in-Err-Deep-clause-refused : goal.returns-in-Err-Deep-clause-refused
returns-in-Err-Deep-clause-refused c = deep_refused _ _ _ _ _ c.as_slice-tokens.ensures.value (is_deep _ _ _ c.in-Err-Deep.field-0-is c.in-Err-Deep.ensures.reads) c.reason-in-Err-Deep.ensures
