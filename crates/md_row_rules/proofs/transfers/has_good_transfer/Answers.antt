use Rattle.md_row_rules.proofs.Alike.{good_row}
use Rattle.md_row_rules.proofs.transfers.has_good_transfer.Goals as goal

pub returns : goal.returns
returns c = λ r x.
    let good = good_row r c.args.row.now x in
    (λ t. good.0 (c.is_good.ensures.0 t), λ h. c.is_good.ensures.1 (good.1 h))
