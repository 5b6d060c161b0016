use Rattle.std.proofs.Common.{Err, ap}
use Rattle.md_parser.proofs.bars.meant_tree.Goals as goal

pub returns-in-Err-NoForm-clause-refused : goal.returns-in-Err-NoForm-clause-refused
returns-in-Err-NoForm-clause-refused c = λ e. c.in-Err-NoForm.ensures.refused (ap Err c.in-Err-NoForm.field-0-is)
