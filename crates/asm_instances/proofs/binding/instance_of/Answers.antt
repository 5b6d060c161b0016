use Rattle.std.proofs.Common.{List, All, sym, subst}
use Rattle.asm_row.specs.declared.values.Value.{Value as Held}
use Rattle.asm_row.specs.Reading.{AreValues}
use Rattle.asm_row.specs.Found.{values_of}
use Rattle.asm_instances.specs.Known.{IsKnown}
use Rattle.asm_instances.proofs.Bound.{known_values, bound_line}
use Rattle.asm_instances.proofs.binding.instance_of.Goals as goal

pub bind-requires-clause-known : goal.bind-requires-clause-known
bind-requires-clause-known c =
    let k = c.requires.known in
    subst (λ (vs : List Held). All (IsKnown c.args.names.now) (values_of vs)) (sym c.as_slice.ensures.value)
    (known_values c.args.rows.now c.requires.readable c.args.names.now k.0 k.1 c.in-Some.row (values_of c.in-Some.values.items) (c.in-Some.ensures k.0 k.2))

pub returns : goal.returns
returns c ts line =
    bound_line c.args.rows.now c.requires.readable c.args.names.now ts c.len.ensures.names c.len-2.ensures.names c.in-Some.row (values_of c.in-Some.values.items) _
    (c.in-Some.ensures ts line)
    (subst (λ (vs : List Held). AreValues c.args.names.now c.in_ok-binding-in-Some.binding (values_of vs)) c.as_slice.ensures.value c.in_ok-binding-in-Some.ensures.values)
    c.in_ok-binding-in-Some.ensures.numbers
