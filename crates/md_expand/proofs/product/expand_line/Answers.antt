use Rattle.std.proofs.Common.{◌++◌, List, take, sym, subst}
use Rattle.md_text.specs.Expansion.{Expanded as Row}
use Rattle.md_forms.specs.Seen.{declarations_of}
use Rattle.md_expand.specs.Expanded.{AllExpanded}
use Rattle.md_expand.proofs.Choices.{none_yet}
use Rattle.md_expand.proofs.OtherLines.{gives_none}
use Rattle.md_expand.proofs.product.expand_line.Goals as goal

pub returns-in_default : goal.returns-in_default
returns-in_default c =
    let d = c.args.declaration.now in
    record {
      room = c.requires.room;
      rows = λ done a.
          subst (λ (rows : List Row). AllExpanded (take c.args.limit (done ++ rows)) c.args.into.items)
          (sym (gives_none c.args.scope.now.width (declarations_of c.args.scope.now.all.now) d.line d.form c.in_default.not-RowLine))
          (none_yet c.args.limit done c.args.into.items c.requires.room a);
    }
