use Rattle.asm_token.proofs.Steps.{spelled_once}
use Rattle.asm_token.proofs.law.at_most_one_spelled.Goals as goal

pub returns : goal.returns
returns c = λ gap bs ts us apart h k. spelled_once gap bs ts us apart h k
