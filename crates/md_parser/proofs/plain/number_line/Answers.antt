use Rattle.md_parser.proofs.PlainTexts.{no_number_behind}
use Rattle.md_parser.proofs.plain.number_line.Goals as goal

pub returns-in_default-number-clause-refused : goal.returns-in_default-number-clause-refused
returns-in_default-number-clause-refused c = λ e. no_number_behind c.args.word.now c.args.line.now c.in-Some.rest.now c.in-Some.ensures c.in_default-number.ensures.none
