use Rattle.std.proofs.Common.{[], subst}
use Rattle.asm_labels.specs.declared.saying.Said.{Said as Held}
use Rattle.asm_labels.specs.Seen.{seen}
use Rattle.asm_names.specs.LabelNames.{CanAdd, label_name}
use Rattle.asm_names.proofs.names.with_said.Goals as goal

pub with_label-requires : goal.with_label-requires
with_label-requires c = record { new = subst (λ (h : Held). CanAdd c.args.names (label_name (seen h []))) c.in-Labelled.is (c.requires.new []) }
