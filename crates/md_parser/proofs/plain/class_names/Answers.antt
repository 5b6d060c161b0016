use Rattle.std.proofs.Common.{Err, ap, rules}
use Rattle.md_parser.proofs.PlainTexts.{no_class_names, too_few_names, class_spaced}
use Rattle.md_parser.proofs.plain.class_names.Goals as goal

pub returns-in-Err-NoNames-clause-refused : goal.returns-in-Err-NoNames-clause-refused
returns-in-Err-NoNames-clause-refused c = λ e.
    no_class_names c.args.line.now c.in-Some.rest.now c.in-Some.ensures (c.in-Err-NoNames.ensures.refused (ap Err c.in-Err-NoNames.field-0-is))

pub returns-then-len-lt2-clause-refused : goal.returns-then-len-lt2-clause-refused
returns-then-len-lt2-clause-refused c = λ e.
    too_few_names c.args.line.now c.in-Some.rest.now c.in-Ok.names.items c.in-Some.ensures c.in-Ok.ensures.found (search rules)

pub returns-clause-found : goal.returns-clause-found
returns-clause-found c = class_spaced c.args.line.now c.in-Some.rest.now c.in-Ok.names.items c.in-Some.ensures c.in-Ok.ensures.found (search rules)
