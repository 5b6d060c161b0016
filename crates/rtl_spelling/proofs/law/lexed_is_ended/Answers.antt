use Rattle.rtl_spelling.proofs.Lexed.{lexed_is_ended}
use Rattle.rtl_spelling.proofs.law.lexed_is_ended.Goals as goal

pub returns : goal.returns
returns c = λ text ts h. lexed_is_ended text ts h
