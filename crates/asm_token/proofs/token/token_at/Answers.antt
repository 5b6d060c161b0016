use Rattle.std.proofs.Common.{sym}
use Rattle.std.proofs.lemmas.List.{take_rest}
use Rattle.asm_token.proofs.Found.{front_from, nothing_from, name_at, mark_at, zero_at, number_at, negative_at, no_token_at_minus, no_token_at_other}
use Rattle.asm_token.proofs.token.token_at.Goals as goal

pub returns-in_err-first-clause-none : goal.returns-in_err-first-clause-none
returns-in_err-first-clause-none c = rw c.from_residual.ensures (nothing_from c.args.text.now c.in_err-first.ensures.value)

pub returns-in_err-magnitude-clause-none : goal.returns-in_err-magnitude-clause-none
returns-in_err-magnitude-clause-none c =
    rw c.from_residual-in_err-magnitude.ensures
    (no_token_at_minus c.args.text.now _ c.in_ok-first.field-0.now (front_from c.args.text.now c.in_ok-first.field-0.now c.in_ok-first.ensures.value)
    c.if-first-eq45.true (take_rest c.args.text.now 1) c.in_err-magnitude.ensures.none)

pub returns-in_err-magnitude-2-clause-none : goal.returns-in_err-magnitude-2-clause-none
returns-in_err-magnitude-2-clause-none c =
    rw c.from_residual-in_err-magnitude-2.ensures
    (no_token_at_other c.args.text.now c.in_ok-first.field-0.now (front_from c.args.text.now c.in_ok-first.field-0.now c.in_ok-first.ensures.value)
    (sym c.if-is_name_start.ensures) (sym c.if-is_mark.ensures) c.if-first-eq48.false c.if-first-eq45.false c.in_err-magnitude-2.ensures.none)

pub returns-then-is_name_start-clause-found : goal.returns-then-is_name_start-clause-found
returns-then-is_name_start-clause-found c =
    name_at c.args.text.now c.in_ok-first.field-0.now c.name_length-length.result
    (front_from c.args.text.now c.in_ok-first.field-0.now c.in_ok-first.ensures.value) (sym c.if-is_name_start.ensures) c.name_length-length.ensures

pub returns-then-is_mark-clause-found : goal.returns-then-is_mark-clause-found
returns-then-is_mark-clause-found c =
    mark_at c.args.text.now c.in_ok-first.field-0.now (front_from c.args.text.now c.in_ok-first.field-0.now c.in_ok-first.ensures.value)
    (sym c.if-is_name_start.ensures) (sym c.if-is_mark.ensures)

pub returns-then-first-eq48-clause-found : goal.returns-then-first-eq48-clause-found
returns-then-first-eq48-clause-found c =
    zero_at c.args.text.now c.in_ok-first.field-0.now (front_from c.args.text.now c.in_ok-first.field-0.now c.in_ok-first.ensures.value) c.if-first-eq48.true

pub returns-in_ok-magnitude-clause-found : goal.returns-in_ok-magnitude-clause-found
returns-in_ok-magnitude-clause-found c =
    negative_at c.args.text.now _ c.in_ok-first.field-0.now c.in_ok-magnitude.length c.in_ok-magnitude.magnitude
    (front_from c.args.text.now c.in_ok-first.field-0.now c.in_ok-first.ensures.value) c.if-first-eq45.true (take_rest c.args.text.now 1)
    c.in_ok-magnitude.ensures.found.count c.in_ok-magnitude.ensures.found.some c.in_ok-magnitude.ensures.found.value

pub returns-in_ok-magnitude-2-clause-found : goal.returns-in_ok-magnitude-2-clause-found
returns-in_ok-magnitude-2-clause-found c =
    number_at c.args.text.now c.in_ok-first.field-0.now c.in_ok-magnitude-2.length c.in_ok-magnitude-2.magnitude
    (front_from c.args.text.now c.in_ok-first.field-0.now c.in_ok-first.ensures.value)
    c.in_ok-magnitude-2.ensures.found.count c.in_ok-magnitude-2.ensures.found.some c.in_ok-magnitude-2.ensures.found.value
