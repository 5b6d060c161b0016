use Rattle.md_lines.proofs.Wholes.{number_no_name, nothing_no_name, no_truth}
use Rattle.md_lines.proofs.fields.is_name.Goals as goal

pub returns-in-Some-Number : goal.returns-in-Some-Number
returns-in-Some-Number c =
    let h = rw c.in-Some-Number.field-0-is at c.in-Some-Number.ensures in
    (λ e. no_truth e, λ n. absurd (number_no_name c.args.text.now _ h.found n))

pub returns-in-None : goal.returns-in-None
returns-in-None c = (λ e. no_truth e, λ n. absurd (nothing_no_name c.args.text.now c.in-None.ensures.none n))
