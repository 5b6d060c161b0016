use Rattle.vpo_top.proofs.Reports.{reported}
use Rattle.vpo_top.proofs.report.report.Goals as goal

pub returns-clause-line : goal.returns-clause-line
returns-clause-line g c =
    reported _ _ _ (λ status is. c.in_default.not-Done status is)
    (rw (c.as_bytes.ensures.value, c.deref.ensures.0, c.message_of-line.ensures) at c.write_line.ensures)
