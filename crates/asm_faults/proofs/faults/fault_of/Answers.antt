use Rattle.std.proofs.Common.{sym, ◌∙◌}
use Rattle.asm_faults.proofs.Judged.{judged}
use Rattle.asm_faults.proofs.faults.fault_of.Goals as goal

pub returns : goal.returns
returns c =
    judged c.args.d.now c.args.text.now c.in_ok-labels.labels (sym c.is_blank.ensures ∙ c.if-is_blank.false) c.in_ok-labels.ensures c.first_fault.result c.first_fault.ensures
