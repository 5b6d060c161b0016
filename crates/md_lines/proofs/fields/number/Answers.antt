use Rattle.md_lines.proofs.Wholes.{name_no_number, mark_no_number, nothing_no_number}
use Rattle.md_lines.proofs.fields.number.Goals as goal

pub returns-in-Some-Name-clause-none : goal.returns-in-Some-Name-clause-none
returns-in-Some-Name-clause-none c =
    let h = rw c.in-Some-Name.field-0-is at c.in-Some-Name.ensures in
    name_no_number c.args.text.now _ h.found

pub returns-in-Some-Mark-clause-none : goal.returns-in-Some-Mark-clause-none
returns-in-Some-Mark-clause-none c =
    let h = rw c.in-Some-Mark.field-0-is at c.in-Some-Mark.ensures in
    mark_no_number c.args.text.now _ h.found

pub returns-in-None-clause-none : goal.returns-in-None-clause-none
returns-in-None-clause-none c = nothing_no_number c.args.text.now c.in-None.ensures.none
