use Rattle.std.proofs.Common.{◌≡◌, ◌<◌, ℕ, true, false, refl, sym, arith, ◌∙◌}
use Rattle.md_check.proofs.Rows.{not_flag_next}
use Rattle.md_check.proofs.shapes.branches_by_flag.Goals as goal

pub loop-flag-preserved : goal.loop-flag-preserved
loop-flag-preserved g c =
    not_flag_next c.args.d.now c.args.relation c.loop-flag.flag c.branches_by.result c.branches_by.ensures c.if-branches_by.false c.loop-flag.invariant

pub returns : goal.returns
returns g c = (
  λ t. absurd (let q : false ≡ true = t in cc),
  λ x. absurd (c.loop-flag.invariant x.flag (let k = x.is_flag in omega (arith, k, c.loop-flag-test.false)) x.compares x.jumps),
)
