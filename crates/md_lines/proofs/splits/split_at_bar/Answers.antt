use Rattle.md_lines.proofs.Bars.{no_front, no_back, bar_found}
use Rattle.md_lines.proofs.splits.split_at_bar.Goals as goal

pub returns-in_err-front-clause-none : goal.returns-in_err-front-clause-none
returns-in_err-front-clause-none c = rw c.from_residual-in_err-front.ensures (no_front c.args.text.now c.in_ok-before.before.now c.in_ok-before.after.now c.in_ok-before.ensures.found c.in_err-front.ensures)

pub returns-in_err-back-clause-none : goal.returns-in_err-back-clause-none
returns-in_err-back-clause-none c = rw c.from_residual-in_err-back.ensures (no_back c.args.text.now c.in_ok-before.before.now c.in_ok-before.after.now c.in_ok-before.ensures.found c.in_err-back.ensures)

pub returns-clause-found : goal.returns-clause-found
returns-clause-found c =
    bar_found c.args.text.now c.in_ok-before.before.now c.in_ok-before.after.now c.in_ok-front.front.now c.in_ok-back.back.now c.in_ok-before.ensures.found c.in_ok-front.ensures c.in_ok-back.ensures
