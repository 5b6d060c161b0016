use Rattle.std.proofs.Common.{◌∙◌, length, ap, sym}
use Rattle.md_text.specs.Expansion.{holes_in}
use Rattle.md_forms.specs.Seen.{declarations_of, pieces_of}
use Rattle.md_expand.specs.Fillings.{filling_seen}
use Rattle.md_expand.proofs.ModeFillings.{as_many_holes}
use Rattle.md_expand.proofs.fillings.hole_count.Goals as goal

pub returns-in-Alternative : goal.returns-in-Alternative
returns-in-Alternative c =
    let w = c.args.scope.now.width in
    let ds = declarations_of c.args.scope.now.all.now in
    c.slot_count.ensures ∙ as_many_holes w ds (pieces_of c.in-Alternative.text.now) ∙ sym (ap (λ f. length (holes_in (filling_seen w ds f).text)) c.in-Alternative.is)
