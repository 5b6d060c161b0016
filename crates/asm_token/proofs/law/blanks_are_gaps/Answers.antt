use Rattle.asm_token.proofs.Steps.{blank_is_gap, blank_or_tab_is_gap}
use Rattle.asm_token.proofs.law.blanks_are_gaps.Goals as goal

pub returns : goal.returns
returns c = record { blank = blank_is_gap; blank_or_tab = blank_or_tab_is_gap }
