use Rattle.rtl_spelling.proofs.Printed.{printed_says}
use Rattle.rtl_spelling.proofs.law.printed_says.Goals as goal

pub returns : goal.returns
returns c = λ b ms k h i w. printed_says b k ms h i w
