use Rattle.md_lines.proofs.Wholes.{no_truth}
use Rattle.md_parser.proofs.BarTexts.{no_first_bar, no_second_bar, no_mode_name}
use Rattle.md_parser.proofs.bars.mode_parts.Goals as goal

pub returns-in_err-name-clause-none : goal.returns-in_err-name-clause-none
returns-in_err-name-clause-none c = rw c.from_residual-in_err-name.ensures (no_first_bar c.args.line.now c.in_ok-rest.rest.now c.in_ok-rest.ensures c.in_err-name.ensures.none)

pub returns-in_err-shown-clause-none : goal.returns-in_err-shown-clause-none
returns-in_err-shown-clause-none c =
    rw c.from_residual-in_err-shown.ensures
    (no_second_bar c.args.line.now c.in_ok-rest.rest.now c.in_ok-name.name.now c.in_ok-name.rest.now c.in_ok-rest.ensures c.in_ok-name.ensures.found c.in_err-shown.ensures.none)

pub returns-else-is_name-clause-none : goal.returns-else-is_name-clause-none
returns-else-is_name-clause-none c =
    no_mode_name c.args.line.now c.in_ok-rest.rest.now c.in_ok-name.name.now c.in_ok-name.rest.now c.in_ok-rest.ensures c.in_ok-name.ensures.found (λ n. no_truth (c.if-is_name.ensures.1 n))
