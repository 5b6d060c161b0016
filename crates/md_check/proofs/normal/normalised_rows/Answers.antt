use Rattle.std.proofs.Common.{◌≡◌, List, map, ap, ◌∙◌}
use Rattle.md_rows.specs.declared.row.Row.{Row}
use Rattle.md_check.specs.Accepted.{normalised_row}
use Rattle.md_check.specs.Checking.{reversed}
use Rattle.md_check.proofs.Rows.{ok_by, reversed_twice}
use Rattle.md_check.proofs.normal.normalised_rows.Goals as goal

pub returns : goal.returns
returns g c =
    let all = map (normalised_row g.W.Word.BITS) c.args.rows in
    ok_by c.turned_round.result (λ rows. rows ≡ reversed c.in_ok-back.back) (λ rows. rows ≡ all)
    (λ rows h. h ∙ (ap (λ (xs : List Row). reversed xs) c.in_ok-back.ensures ∙ reversed_twice all)) c.turned_round.ensures
