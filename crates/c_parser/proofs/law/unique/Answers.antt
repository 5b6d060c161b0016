use Rattle.c_parser.proofs.Whole.{unique}
use Rattle.c_parser.proofs.law.unique.Goals as goal

pub returns : goal.returns
returns c = unique
