use Rattle.c_parser.proofs.Lexed.{lexed_is_ended}
use Rattle.c_parser.proofs.law.lexed_is_ended.Goals as goal

pub returns : goal.returns
returns c = lexed_is_ended
