use Rattle.c_typing.proofs.Programs.{program_has_tree}
use Rattle.c_typing.proofs.law.has_tree.Goals as goal

pub returns : goal.returns
returns c = program_has_tree
