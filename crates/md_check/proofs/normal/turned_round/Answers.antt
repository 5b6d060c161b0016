use Rattle.std.proofs.Common.{◌≡◌, ◌++◌, List, [], ◌∷◌, sym, ap, ◌∙◌}
use Rattle.md_rows.specs.declared.row.Row.{Row}
use Rattle.md_check.specs.Checking.{reversed}
use Rattle.md_check.proofs.Rows.{turned_step}
use Rattle.md_check.proofs.normal.turned_round.Goals as goal

pub loop-row-preserved : goal.loop-row-preserved
loop-row-preserved c =
    let back = c.loop-row.back in
    let left = c.pop.new.self in
    let row = c.in-Some.row in
    let e : c.loop-row.rows ≡ left ++ row ∷ [] = c.in-Some.ensures in
    let p : c.push.new.self ≡ back ++ row ∷ [] = c.in_ok-push.ensures.ok in
    ap (λ (xs : List Row). xs ++ reversed left) p
    ∙ (turned_step back left row ∙ (ap (λ (xs : List Row). back ++ reversed xs) (sym e) ∙ c.loop-row.invariant))
