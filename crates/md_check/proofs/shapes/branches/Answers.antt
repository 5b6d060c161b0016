use Rattle.md_check.proofs.Branches.{each_branch, all_branches}
use Rattle.md_check.proofs.shapes.branches.Goals as goal

pub returns : goal.returns
returns g c =
    (λ t. each_branch c.args.d.now (c.branch_on_all.ensures.0 t), λ f. c.branch_on_all.ensures.1 (all_branches c.args.d.now f))
