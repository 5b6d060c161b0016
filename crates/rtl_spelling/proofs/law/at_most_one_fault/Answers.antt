use Rattle.rtl_spelling.proofs.OneFault.{one_fault}
use Rattle.rtl_spelling.proofs.law.at_most_one_fault.Goals as goal

pub returns : goal.returns
returns c = λ b ts k. one_fault b k ts
