use Rattle.std.proofs.Common.{option_map, sym, ◌∙◌}
use Rattle.asm_row.specs.Found.{values_of}
use Rattle.asm_row.proofs.Indexed.{at_row, not_there}
use Rattle.asm_row.proofs.finding.read_at.Goals as goal

pub read_row-requires-clause-few : goal.read_row-requires-clause-few
read_row-requires-clause-few c = (c.requires.readable.rows c.args.place c.in-Some.row.now c.in-Some.ensures).few

pub returns-in-Some : goal.returns-in-Some
returns-in-Some c ts line =
    at_row c.args.d.now ts c.args.place c.in-Some.row.now (option_map (λ values. values_of values.items) c.read_row.result) c.in-Some.ensures (c.read_row.ensures ts line)

pub returns-in-None : goal.returns-in-None
returns-in-None c ts line row vs e k = not_there row (sym c.in-None.ensures ∙ e)
