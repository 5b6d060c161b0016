use Rattle.md_forms.specs.Seen.{declared_of}
use Rattle.md_reader.proofs.Lists.{least_counted}
use Rattle.md_reader.proofs.told.told_of_row.Goals as goal

pub returns : goal.returns
returns c =
    least_counted c.args.rule (declared_of c.args.declared.now) c.args.rows.now c.counted.result.now c.least_row_line.result c.requires c.counted.ensures
    c.least_row_line.ensures
