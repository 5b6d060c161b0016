use Rattle.std.proofs.Common.{sym, ap, ◌∙◌}
use Rattle.md_forms.specs.Seen.{kind_of, declarations_of}
use Rattle.md_text.specs.Pieces.{Named}
use Rattle.md_expand.proofs.ModeFillings.{offered}
use Rattle.md_expand.proofs.fillings.alternatives_for.Goals as goal

pub returns : goal.returns
returns c =
    let w = c.args.scope.now.width in
    let ds = declarations_of c.args.scope.now.all.now in
    offered w ds (kind_of c.args.kind.now) c.as_slice.result.now c.alternatives_of.result (ap kind_of c.in-Named.is ∙ ap Named (sym c.as_slice.ensures)) c.alternatives_of.ensures.some c.alternatives_of.ensures.all
