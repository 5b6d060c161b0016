use Rattle.md_lines.proofs.Wholes.{no_truth}
use Rattle.md_parser.proofs.PlainTexts.{no_flag_number, no_flag_name}
use Rattle.md_parser.proofs.plain.flag_parts.Goals as goal

pub returns-in_err-number-clause-none : goal.returns-in_err-number-clause-none
returns-in_err-number-clause-none c =
    rw c.from_residual-in_err-number.ensures
    (no_flag_number c.args.line.now c.in_ok-rest.rest.now c.in_ok-digits.digits.now c.in_ok-digits.name.now c.in_ok-rest.ensures c.in_ok-digits.ensures.found c.in_err-number.ensures.none)

pub returns-else-is_name-clause-none : goal.returns-else-is_name-clause-none
returns-else-is_name-clause-none c =
    no_flag_name c.args.line.now c.in_ok-rest.rest.now c.in_ok-digits.digits.now c.in_ok-digits.name.now c.in_ok-rest.ensures c.in_ok-digits.ensures.found (λ n. no_truth (c.if-is_name.ensures.1 n))
