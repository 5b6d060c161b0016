use Rattle.c_typing.proofs.First.{tells_none}
use Rattle.c_typing.proofs.law.none_is_told.Goals as goal

pub returns : goal.returns
returns c = tells_none
