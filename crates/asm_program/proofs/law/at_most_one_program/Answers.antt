use Rattle.asm_program.proofs.OneProgram.{one_program}
use Rattle.asm_program.proofs.law.at_most_one_program.Goals as goal

pub returns : goal.returns
returns c d text p q readable first second a b = one_program c.says_one_thing.ensures d text p q readable first second a b
