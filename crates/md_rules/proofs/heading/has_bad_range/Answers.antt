use Rattle.std.proofs.Common.{sym, ◌∙◌, not}
use Rattle.md_text.specs.Heading.{is_legal_kind}
use Rattle.md_rules.proofs.TextSlots.{any_slot}
use Rattle.md_rules.proofs.heading.has_bad_range.Goals as goal

pub returns : goal.returns
returns c = c.any_slot_out_of_range.ensures ∙ sym (any_slot (λ h. not (is_legal_kind c.args.width h.kind)) c.args.text.now)
