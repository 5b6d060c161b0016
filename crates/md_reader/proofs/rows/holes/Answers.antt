use Rattle.std.proofs.Common.{◌∷◌, [], ◌++◌, sym, ap, ◌∙◌}
use Rattle.md_text.specs.Expansion.{hole_of, holes_in}
use Rattle.md_expand.specs.Seen.{shown_of}
use Rattle.md_reader.proofs.Declarations.{one_more}
use Rattle.md_reader.proofs.rows.holes.Goals as goal

pub loop-shown-preserved : goal.loop-shown-preserved
loop-shown-preserved c =
    c.in_ok-holes.ensures
    ∙ ap (λ before. before ++ holes_in (shown_of c.shown-item.result ∷ [])) c.loop-shown.invariant
    ∙ sym (one_more shown_of hole_of c.args.text.now c.loop-shown.shown-index c.shown-item.result c.loop-shown-test.true c.shown-item.is)
