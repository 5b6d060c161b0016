use Rattle.md_lines.proofs.Wholes.{no_truth}
use Rattle.md_parser.proofs.PlainTexts.{no_name_behind}
use Rattle.md_parser.proofs.plain.name_line.Goals as goal

pub returns-then-not-is_name-clause-refused : goal.returns-then-not-is_name-clause-refused
returns-then-not-is_name-clause-refused c = λ e. no_name_behind c.args.word.now c.args.line.now c.in-Some.rest.now c.in-Some.ensures (λ n. no_truth (c.if-not-is_name.ensures.1 n))
