use Rattle.rtl_spelling.proofs.Lexed.{stuck_unlexed}
use Rattle.std.proofs.Common.{refl}
use Rattle.rtl_spelling.proofs.law.stuck_is_not_lexed.Goals as goal

pub returns : goal.returns
returns c = λ text p ts h k. stuck_unlexed text text p ts h k refl
