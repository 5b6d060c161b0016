use Rattle.std.proofs.Common.{sym, ◌∙◌, not}
use Rattle.md_text.specs.Pieces.{has_name}
use Rattle.md_rules.proofs.TextSlots.{any_slot_name}
use Rattle.md_rules.proofs.slots.has_unused_slot.Goals as goal

pub returns : goal.returns
returns c = c.any_unused_slot.ensures ∙ sym (any_slot_name (λ name. not (has_name c.args.names.now name)) c.args.text.now)
