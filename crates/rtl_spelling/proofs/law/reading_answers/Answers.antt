use Rattle.rtl_spelling.proofs.Answered.{reading_answers}
use Rattle.rtl_spelling.proofs.law.reading_answers.Goals as goal

pub returns : goal.returns
returns c = λ b ts k ended. reading_answers b k ts ended
