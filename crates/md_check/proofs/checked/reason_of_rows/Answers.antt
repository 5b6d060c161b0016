use Rattle.std.proofs.Common.{refl, sym, subst}
use Rattle.vp_io.specs.declared.answers.Reason.{Reason}
use Rattle.md_check.specs.Accepted.{Overlapping}
use Rattle.md_check.specs.Checking.{IsReason}
use Rattle.md_check.proofs.Telling.{told_overlap}
use Rattle.md_check.proofs.checked.reason_of_rows.Goals as goal

pub returns-in-Some : goal.returns-in-Some
returns-in-Some c =
    subst (λ (r : Reason). IsReason c.args.raw.now r) (sym c.reason.ensures)
    (record { rule = Overlapping; number = refl; column = refl; told = told_overlap c.args.raw.now c.in-Some.overlap c.in-Some.ensures })
