use Rattle.md_lines.proofs.KindTexts.{no_dots, no_low, no_high}
use Rattle.md_lines.proofs.kinds.between.Goals as goal

pub returns-in_err-high-clause-none : goal.returns-in_err-high-clause-none
returns-in_err-high-clause-none c = rw c.from_residual-in_err-high.ensures (no_dots c.args.text.now c.in_ok-low.low.now c.in_ok-low.rest.now c.in_ok-low.ensures.found c.in_err-high.ensures)

pub returns-in_err-low-2-clause-none : goal.returns-in_err-low-2-clause-none
returns-in_err-low-2-clause-none c = rw c.from_residual-in_err-low-2.ensures (no_low c.args.text.now c.in_ok-low.low.now c.in_ok-low.rest.now c.in_ok-low.ensures.found c.in_err-low-2.ensures.none)

pub returns-in_err-high-2-clause-none : goal.returns-in_err-high-2-clause-none
returns-in_err-high-2-clause-none c =
    rw c.from_residual-in_err-high-2.ensures
    (no_high c.args.text.now c.in_ok-low.low.now c.in_ok-low.rest.now c.in_ok-high.high.now c.in_ok-low.ensures.found c.in_ok-high.ensures c.in_err-high-2.ensures.none)
