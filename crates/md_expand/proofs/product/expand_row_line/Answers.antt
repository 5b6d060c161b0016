use Rattle.std.proofs.Common.{List, subst, arith}
use Rattle.md_text.specs.Pieces.{slots}
use Rattle.md_text.specs.Expansion.{expansions_of}
use Rattle.md_forms.specs.Seen.{pieces_of, declarations_of}
use Rattle.md_expand.specs.declared.modes.Filling.{Filling}
use Rattle.md_expand.specs.Product.{form_of_row, rows_of, AddsRows}
use Rattle.md_expand.proofs.Choices.{full}
use Rattle.md_expand.proofs.product.expand_row_line.Goals as goal

pub returns-then-len-limit-clause-rows : goal.returns-then-len-limit-clause-rows
returns-then-len-limit-clause-rows c =
    let row = c.args.row in
    let all = expansions_of c.args.scope.now.width (declarations_of c.args.scope.now.all.now) row.line (form_of_row row) in
    λ done a. full c.args.limit done all c.args.rows.items c.requires.room (omega (arith, c.args.rows.ok.0, c.len.ensures, c.if-len-limit.true)) a

pub returns-clause-rows : goal.returns-clause-rows
returns-clause-rows c =
    let row = c.args.row in
    let ds = declarations_of c.args.scope.now.all.now in
    subst (λ (fs : List Filling). AddsRows c.args.limit (rows_of c.args.scope.now.width ds row fs (slots (pieces_of row.text.now))) c.args.rows.items c.in_ok-progress.progress.rows.items)
    c.new.ensures.items c.in_ok-progress.ensures.adds
