use Rattle.std.proofs.Common.{ℕ, ◌+◌, ◌≤◌, length, sym, subst}
use Rattle.std.specs.Prelude.{IfOk}
use Rattle.md_text.specs.Expansion.{holes_in}
use Rattle.md_forms.specs.Seen.{pieces_of, declarations_of}
use Rattle.md_expand.specs.declared.modes.Filling.{Filling}
use Rattle.md_expand.specs.declared.modes.Filling.TheVariants.{Alternative}
use Rattle.md_expand.specs.Meant.{IsMeant}
use Rattle.md_expand.specs.Fillings.{filling_seen}
use Rattle.md_expand.proofs.ModeFillings.{as_many_holes}
use Rattle.md_expand.proofs.meanings.meaning.Goals as goal

pub returns-in-Alternative : goal.returns-in-Alternative
returns-in-Alternative c =
    let w = c.args.scope.now.width in
    let ds = declarations_of c.args.scope.now.all.now in
    let n = c.args.number in
    let r = c.alternative_meaning.result in
    let a : Filling = Alternative c.in-Alternative.text c.in-Alternative.tree in
    subst (λ (f : Filling). IfOk r (IsMeant (n + length (holes_in (filling_seen w ds f).text) ≤ 256) ((filling_seen w ds f).tree n)))
    (sym c.in-Alternative.is)
    (subst (λ (k : ℕ). IfOk r (IsMeant (n + k ≤ 256) ((filling_seen w ds a).tree n))) (as_many_holes w ds (pieces_of c.in-Alternative.text.now))
    c.alternative_meaning.ensures)
