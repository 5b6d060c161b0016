use Rattle.md_lines.proofs.Wholes.{no_truth}
use Rattle.md_parser.proofs.PlainTexts.{no_second_space, no_register_number, no_role, no_register_name}
use Rattle.md_parser.proofs.plain.register_parts.Goals as goal

pub returns-in_err-name-clause-none : goal.returns-in_err-name-clause-none
returns-in_err-name-clause-none c =
    rw c.from_residual-in_err-name.ensures
    (no_second_space c.args.line.now c.in_ok-rest.rest.now c.in_ok-digits.digits.now c.in_ok-digits.rest.now c.in_ok-rest.ensures c.in_ok-digits.ensures.found c.in_err-name.ensures.none)

pub returns-in_err-number-clause-none : goal.returns-in_err-number-clause-none
returns-in_err-number-clause-none c =
    rw c.from_residual-in_err-number.ensures
    (no_register_number c.args.line.now c.in_ok-rest.rest.now c.in_ok-digits.digits.now c.in_ok-digits.rest.now c.in_ok-rest.ensures c.in_ok-digits.ensures.found c.in_err-number.ensures.none)

pub returns-in_err-role-clause-none : goal.returns-in_err-role-clause-none
returns-in_err-role-clause-none c =
    rw c.from_residual-in_err-role.ensures
    (no_role c.args.line.now c.in_ok-rest.rest.now c.in_ok-digits.digits.now c.in_ok-digits.rest.now c.in_ok-name.name.now c.in_ok-name.role_text.now c.in_ok-rest.ensures
    c.in_ok-digits.ensures.found c.in_ok-name.ensures.found c.in_err-role.ensures.none)

pub returns-else-is_name-clause-none : goal.returns-else-is_name-clause-none
returns-else-is_name-clause-none c =
    no_register_name c.args.line.now c.in_ok-rest.rest.now c.in_ok-digits.digits.now c.in_ok-digits.rest.now c.in_ok-name.name.now c.in_ok-name.role_text.now c.in_ok-rest.ensures
    c.in_ok-digits.ensures.found c.in_ok-name.ensures.found (λ n. no_truth (c.if-is_name.ensures.1 n))
