use Rattle.rtl_spelling.proofs.Answered.{spelled_is_read}
use Rattle.rtl_spelling.proofs.law.spelled_is_read.Goals as goal

pub returns : goal.returns
returns c = λ b ms ts k s. spelled_is_read b k ms ts s
