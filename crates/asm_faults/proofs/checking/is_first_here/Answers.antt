use Rattle.asm_faults.proofs.LabelPlaces.{first_here}
use Rattle.asm_faults.proofs.checking.is_first_here.Goals as goal

pub returns-in-Labelled : goal.returns-in-Labelled
returns-in-Labelled c all ts labels = first_here all c.args.line c.args.said c.in-Labelled.label ts c.stands_at.result c.in-Labelled.is (c.stands_at.ensures all labels)
