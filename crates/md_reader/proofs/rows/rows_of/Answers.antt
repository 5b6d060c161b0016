use Rattle.std.proofs.Common.{ap, map, ◌∙◌}
use Rattle.md_text.specs.Accepted.{row_of}
use Rattle.md_reader.proofs.RowsMade.{one_row_more, all_made}
use Rattle.md_reader.proofs.rows.rows_of.Goals as goal

pub loop-row-preserved : goal.loop-row-preserved
loop-row-preserved c = λ rs a.
    c.in_ok-push.ensures.ok
    ∙ one_row_more rs c.args.rows.now c.loop-row.row-index c.row-item.result c.in_ok-row_of.field-0 c.loop-row.made c.loop-row-test.true c.row-item.is a
    c.in_ok-row_of.ensures (c.loop-row.invariant rs a)

pub returns : goal.returns
returns c = λ rs a. c.loop-row.invariant rs a ∙ ap (map row_of) (all_made rs c.args.rows.now c.loop-row.row-index c.loop-row-test.false a)
