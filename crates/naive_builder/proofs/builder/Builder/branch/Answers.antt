use Rattle.std.proofs.Common.{ℕ, subst}
use Rattle.std.specs.Prelude.{Option}
use Rattle.md_shapes.specs.declared.patterns.Pattern.TheVariants.{Branch}
use Rattle.temp_shapes.specs.Rows.{IsPatternCovered}
use Rattle.naive_builder.specs.Covered.{IsFlagFor}
use Rattle.naive_builder.proofs.Covering.{covered_by, if_not_told, flag_there}
use Rattle.naive_builder.proofs.builder.Builder.branch.Goals as goal

pub unreachable-requires : goal.unreachable-requires
unreachable-requires g c =
    let d = c.args.m.now in
    let direct = if_not_told (IsPatternCovered d (Branch c.args.relation)) c.is_covered.result c.if-is_covered.false (c.is_covered.ensures d c.requires.rows) in
    let flagged = subst (λ (o : Option ℕ). IsFlagFor d c.args.relation o) c.in_default.is (c.flag_for.ensures d c.requires.rows) in
    flag_there d c.args.relation
    (covered_by g.W.Word.BITS d c.raw-description.result.now c.args.rows.now c.required_covered.ensures c.raw-description.ensures.description
    c.raw-description.ensures.checked c.requires.rows)
    direct flagged
