use Rattle.md_verdict.proofs.Verdicts.{refused_by_text, refused_whole}
use Rattle.md_verdict.proofs.accepted.accept.Goals as goal

pub returns-in_err-said-clause-refused : goal.returns-in_err-said-clause-refused
returns-in_err-said-clause-refused c =
    refused_by_text c.args.text.now c.in_err-said.field-0.0 c.from_residual.result c.from_residual.ensures.1 c.in_err-said.ensures.told

pub returns-clause-refused : goal.returns-clause-refused
returns-clause-refused c =
    refused_whole c.args.text.now c.in_ok-said.said c.judged.result c.in_ok-said.ensures.says c.judged.ensures.fault
