use Rattle.md_lines.proofs.KindTexts.{no_inverted}
use Rattle.md_lines.proofs.kinds.read_kind.Goals as goal

pub returns-in_err-range-in-Some-clause-none : goal.returns-in_err-range-in-Some-clause-none
returns-in_err-range-in-Some-clause-none c = rw c.from_residual.ensures (no_inverted c.args.text.now c.in-Some.rest.now c.in-Some.ensures c.in_err-range-in-Some.ensures.none)
