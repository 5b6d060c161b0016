use Rattle.std.proofs.Common.{◌↔◌, IsTrue, List, subst}
use Rattle.std.specs.List.{AllByRecursion}
use Rattle.asm_row.specs.declared.values.Value.{Value as Held}
use Rattle.asm_row.specs.Found.{values_of}
use Rattle.asm_program.specs.Rules.{IsPlaced}
use Rattle.asm_faults.proofs.RowFaults.{is_made, not_made}
use Rattle.asm_faults.proofs.instructions.row_fault.Goals as goal

pub returns-then-are_placed : goal.returns-then-are_placed
returns-then-are_placed c all ts labels line =
    is_made c.args.rows.now all ts c.in-Some.field-0-0 (values_of c.in-Some.values.items) c.are_placed.result (c.in-Some.ensures ts line)
    (subst (λ (vs : List Held). IsTrue c.are_placed.result ↔ AllByRecursion (IsPlaced all) (values_of vs)) c.as_slice.ensures.value (c.are_placed.ensures all labels)) c.if-are_placed.true

pub returns-else-are_placed : goal.returns-else-are_placed
returns-else-are_placed c all ts labels line =
    not_made c.args.rows.now all ts c.in-Some.field-0-0 (values_of c.in-Some.values.items) c.are_placed.result (c.in-Some.ensures ts line)
    (subst (λ (vs : List Held). IsTrue c.are_placed.result ↔ AllByRecursion (IsPlaced all) (values_of vs)) c.as_slice.ensures.value (c.are_placed.ensures all labels))
    c.requires.readable c.if-are_placed.false
