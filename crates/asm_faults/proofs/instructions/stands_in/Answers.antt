use Rattle.std.proofs.Common.{◌∙◌}
use Rattle.asm_labels.specs.Seen.{label_of}
use Rattle.asm_faults.proofs.LabelPlaces.{stands_in, same_part}
use Rattle.asm_faults.proofs.instructions.stands_in.Goals as goal

pub returns-in-Some : goal.returns-in-Some
returns-in-Some c all labels =
    stands_in all (label_of c.args.label) c.in-Some.place c.find.result (c.find.ensures ∙ labels (label_of c.args.label)) c.in-Some.is c.eq.result c.args.part
    (same_part c.in-Some.place.part c.args.part c.eq.result c.eq.ensures)
