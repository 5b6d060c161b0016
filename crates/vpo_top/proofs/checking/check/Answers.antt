use Rattle.std.proofs.Common.{ap, ◌∙◌}
use Rattle.md_verdict.specs.Line.{verdict_line_of}
use Rattle.vpo_top.proofs.Verdicts.{verdict_on}
use Rattle.vpo_top.proofs.checking.check.Goals as goal

pub returns-in-Ok-clause-verdict : goal.returns-in-Ok-clause-verdict
returns-in-Ok-clause-verdict g c =
    verdict_on _ _ c.in_ok-machine.machine _ c.in_ok-machine.ensures.found (c.in-Ok.ensures ∙ ap verdict_line_of c.raw.ensures)
