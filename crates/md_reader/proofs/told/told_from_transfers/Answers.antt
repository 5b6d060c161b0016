use Rattle.std.proofs.Common.{arith}
use Rattle.md_forms.specs.Seen.{declared_of}
use Rattle.md_reader.proofs.told.told_from_transfers.Goals as goal

pub returns : goal.returns
returns c =
    let d = declared_of c.args.declared.now in
    c.first_of-3.ensures 10 11 15 d (omega arith) (omega arith)
    (c.told_at-transfer.ensures d c.told_of_row.ensures)
    (c.first_of-2.ensures 11 13 15 d (omega arith) (omega arith)
    c.in_ok-holes.ensures
    (c.first_of.ensures 13 14 15 d (omega arith) (omega arith)
    (c.told_at-large.ensures d c.told_of_row-2.ensures)
    (c.told_at-many.ensures d c.passing_line.ensures)))
