use Rattle.std.proofs.Common.{sym, ◌∙◌}
use Rattle.std.specs.Str.{bytes_eq}
use Rattle.md_rules.proofs.TextSlots.{any_slot_name}
use Rattle.md_rules.proofs.slots.has_slot.Goals as goal

pub returns : goal.returns
returns c = c.any_slot_named.ensures ∙ sym (any_slot_name (λ other. bytes_eq other c.args.name.now) c.args.text.now)
