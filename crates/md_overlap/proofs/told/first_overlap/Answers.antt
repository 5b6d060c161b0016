use Rattle.std.proofs.Common.{ℕ, ap, subst, ◌≡◌, length, arith}
use Rattle.md_overlap.specs.Overlap.{HasOverlapBefore}
use Rattle.md_overlap.specs.Least.{IsLeastPair}
use Rattle.md_overlap.proofs.Minimum.{overlap_next, row_at}
use Rattle.md_overlap.proofs.told.first_overlap.Goals as goal

pub loop-i-preserved : goal.loop-i-preserved
loop-i-preserved c =
    let row = row_at c.args.d.now c.loop-i.i c.as_slice-rows.result.now c.index-rows-i.result c.as_slice-rows.ensures c.loop-i-test.true c.index-rows-i.is in
    overlap_next c.args.d.now c.loop-i.i c.index-rows-i.result c.least_earlier.result c.loop-i.best c.with_later-best.result row
    c.loop-i.invariant (c.least_earlier.ensures c.index-rows-i.result row) c.with_later-best.ensures

pub returns : goal.returns
returns c =
    let same : length c.as_slice-rows.result.now ≡ length c.args.d.now.rows = ap length c.as_slice-rows.ensures in
    let all : c.loop-i.i ≡ length c.args.d.now.rows = omega (arith, same, c.loop-i-test.false, c.loop-i.auto.i-end) in
    subst (λ (n : ℕ). IsLeastPair (HasOverlapBefore c.args.d.now n) c.loop-i.best) all c.loop-i.invariant
