use Rattle.md_parser.proofs.KindsOfLines.{none_has, no_keyword}
use Rattle.md_parser.proofs.form.read_form.Goals as goal

pub returns-in_default-clause-refused : goal.returns-in_default-clause-refused
returns-in_default-clause-refused c = λ e. no_keyword c.args.bits c.args.line.now c.in_default.ensures.none

pub returns-clause-refused : goal.returns-clause-refused
returns-clause-refused c = λ e. none_has c.args.bits c.args.line.now c.in-Some.keyword c.in-Some.ensures.found (c.line_of.ensures.refused e)
