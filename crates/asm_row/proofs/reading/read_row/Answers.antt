use Rattle.std.proofs.Common.{List, subst, sym}
use Rattle.std.proofs.lemmas.Bool.{both_ways}
use Rattle.asm_row.specs.declared.values.Value.{Value as Held}
use Rattle.asm_row.specs.Found.{CanBe, values_of}
use Rattle.asm_row.proofs.Rows.{row_some, row_other}
use Rattle.asm_row.proofs.reading.read_row.Goals as goal

pub returns-then-can_be : goal.returns-then-can_be
returns-then-can_be c = λ ts h.
    row_some c.args.d.now c.args.row.now ts (values_of c.in-Some.values.items) (c.in-Some.ensures ts h)
    (subst (λ (vs : List Held). CanBe c.args.d.now c.args.row.now (values_of vs)) c.as_slice.ensures.value (c.can_be.ensures.0 c.if-can_be.true))

pub returns-else-can_be : goal.returns-else-can_be
returns-else-can_be c = λ ts h.
    row_other c.args.d.now c.args.row.now ts c.requires.names (values_of c.in-Some.values.items) (c.in-Some.ensures ts h)
    (λ q. both_ways c.can_be.result c.if-can_be.false
    (c.can_be.ensures.1 (subst (λ (vs : List Held). CanBe c.args.d.now c.args.row.now (values_of vs)) (sym c.as_slice.ensures.value) q)))
