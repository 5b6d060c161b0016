use Rattle.asm_program.proofs.Saying.{says_once}
use Rattle.asm_program.proofs.law.says_one_thing.Goals as goal

pub returns : goal.returns
returns c line s t a b = says_once c.at_most_one_spelled.ensures c.blanks_are_gaps.ensures.blank_or_tab line s t a b
