use Rattle.std.proofs.Common.{◌≡◌, Err, ap}
use Rattle.md_parser.specs.declared.fault.FormFault.TheVariants.{NoForm}
use Rattle.md_parser.proofs.BarTexts.{parts_of_row, no_row_text, no_row_transfer}
use Rattle.md_parser.proofs.bars.row_line.Goals as goal

pub returns-in_default-clause-refused : goal.returns-in_default-clause-refused
returns-in_default-clause-refused c = λ e ps t h. c.in_default.ensures.none h.shown h.meant (parts_of_row c.args.bits c.args.line.now ps t h)

pub returns-in-Err-clause-refused : goal.returns-in-Err-clause-refused
returns-in-Err-clause-refused c = λ e.
    let fault : c.in-Err.fault ≡ NoForm = cc in
    no_row_text c.args.bits c.args.line.now c.in-Some.shown.now c.in-Some.meant.now c.in-Some.ensures.found (c.in-Err.ensures.refused (ap Err fault))

pub returns-in-Err-meant_transfer-clause-refused : goal.returns-in-Err-meant_transfer-clause-refused
returns-in-Err-meant_transfer-clause-refused c = λ e.
    let fault : c.in-Err-meant_transfer.fault ≡ NoForm = cc in
    no_row_transfer c.args.bits c.args.line.now c.in-Some.shown.now c.in-Some.meant.now c.in-Some.ensures.found (c.in-Err-meant_transfer.ensures.refused (ap Err fault))
