use Rattle.md_shapes.specs.Drawings.{frame_of}
use Rattle.temp_shapes.specs.Operands.{open_of}
use Rattle.temp_shapes.proofs.Covering.{transfer_done, transfer_elementary}
use Rattle.temp_shapes.proofs.transfers.transfer_of.Goals as goal

pub returns-clause-elementary : goal.returns-clause-elementary
returns-clause-elementary g c =
    let d = c.args.m.now in
    let i = c.in_ok-by.ensures in
    let made = transfer_done d (frame_of d.word c.args.rows.now.frame) c.args.pattern (open_of c.args.operands) (record { what = c.in_ok-what.what; by = c.in_ok-by.by })
    i (c.in_ok-what.ensures i.row i.instance.has_row) in
    λ a b. transfer_elementary d c.args.rows.now c.args.pattern (open_of c.args.operands) (record { what = c.in_ok-what.what; by = c.in_ok-by.by }) c.requires.covered.row
    c.requires.rows c.requires.listed c.requires.covered.covers c.requires.fit made a b
