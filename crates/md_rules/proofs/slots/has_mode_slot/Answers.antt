use Rattle.std.proofs.Common.{sym, ◌∙◌}
use Rattle.md_text.specs.Rules.{is_mode}
use Rattle.md_forms.specs.Seen.{declarations_of}
use Rattle.md_rules.proofs.TextSlots.{any_slot}
use Rattle.md_rules.proofs.slots.has_mode_slot.Goals as goal

pub returns : goal.returns
returns c = c.any_slot_for_mode.ensures ∙ sym (any_slot (λ h. is_mode (declarations_of c.args.known.now.before.now) h.kind) c.args.text.now)
