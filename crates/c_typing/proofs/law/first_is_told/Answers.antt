use Rattle.c_typing.proofs.First.{tells_first}
use Rattle.c_typing.proofs.law.first_is_told.Goals as goal

pub returns : goal.returns
returns c = tells_first
