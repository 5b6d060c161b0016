use Rattle.rtl_spelling.proofs.Alone.{printed_is_only}
use Rattle.rtl_spelling.proofs.law.printed_is_only.Goals as goal

pub returns : goal.returns
returns c = λ b text ms k none h. printed_is_only b none text ms h
