use Rattle.std.proofs.Common.{◌∙◌, ap}
use Rattle.std.proofs.lemmas.Result.{IfOk-weaker}
use Rattle.md_reader.specs.RowsMade.{row_with}
use Rattle.md_reader.proofs.RowsMade.{row_made}
use Rattle.md_reader.proofs.rows.row_of.Goals as goal

pub returns : goal.returns
returns c =
    IfOk-weaker c.row_with.result _ _
    (λ made same r x.
    same ∙ ap (row_with c.args.row.now) c.deref.ensures.value ∙ row_made r c.args.row.now c.in-Some.transfer c.in-Some.is c.requires.holes x)
    c.row_with.ensures
