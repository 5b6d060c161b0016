use Rattle.c_parser.proofs.Refusals.{one_refusal}
use Rattle.c_parser.proofs.law.one_refusal.Goals as goal

pub returns : goal.returns
returns c = one_refusal
