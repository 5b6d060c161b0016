use Rattle.std.proofs.Common.{sym, ap, ◌∙◌, subst}
use Rattle.md_forms.specs.Seen.{declared_of}
use Rattle.md_text.specs.Accepted.{HasTooMany}
use Rattle.md_rules.specs.Least.{IsLeast}
use Rattle.md_expand.specs.Expanded.{line_of}
use Rattle.md_expand.proofs.Counted.{least_passing}
use Rattle.md_expand.proofs.counts.passing_line.Goals as goal

pub returns : goal.returns
returns c =
    let d = declared_of c.args.declared.now in
    subst (IsLeast (HasTooMany d)) (sym (c.line_of.ensures ∙ ap line_of c.at.ensures)) (least_passing d c.args.rows.now c.requires)
