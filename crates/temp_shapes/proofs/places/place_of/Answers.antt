use Rattle.std.proofs.Common.{◌≡◌, ◌+◌, ◌*◌, ◌<◌, ℕ, Some, sym, ap, subst, ◌∙◌}
use Rattle.md_shapes.specs.declared.patterns.Pattern.{Pattern}
use Rattle.md_shapes.specs.Patterns.{pattern_of}
use Rattle.md_shapes.specs.Shapes.{shape_by}
use Rattle.temp_shapes.proofs.Positions.{branch_place, flag_branch_place, flag_below}
use Rattle.temp_shapes.proofs.places.place_of.Goals as goal

pub returns-in-Branch-clause-shape : goal.returns-in-Branch-clause-shape
returns-in-Branch-clause-shape c =
    branch_place c.relation_place.result c.in-Branch.relation c.relation_place.ensures.place c.relation_place.ensures.relation
    ∙ sym (ap (λ (p : Pattern). Some p) c.in-Branch.is)

pub returns-in-BranchByFlag-clause-shape : goal.returns-in-BranchByFlag-clause-shape
returns-in-BranchByFlag-clause-shape c =
    let q = c.relation_place-in-BranchByFlag in
    let r = c.in-BranchByFlag.relation in
    let j = c.in-BranchByFlag.flag in
    let l = flag_below c.args.pattern r j c.in-BranchByFlag.is c.requires in
    subst (λ (n : ℕ). pattern_of (shape_by (38 + 8 * q.result + n)) ≡ Some c.args.pattern) (sym c.from-in-BranchByFlag.ensures)
    (flag_branch_place q.result j r q.ensures.place l q.ensures.relation ∙ sym (ap (λ (p : Pattern). Some p) c.in-BranchByFlag.is))
