use Rattle.std.proofs.Common.{ℕ, subst, ◌≡◌, ◌<◌, length, arith, rules}
use Rattle.md_overlap.specs.Overlap.{OverlapsBefore}
use Rattle.md_overlap.specs.Least.{IsLeast}
use Rattle.md_overlap.proofs.Minimum.{before_next, row_at, at_row}
use Rattle.md_overlap.proofs.told.least_earlier.Goals as goal

pub loop-i-preserved : goal.loop-i-preserved
loop-i-preserved c =
    let is = c.as_slice-rows.ensures in
    let below : c.loop-i.i < length c.as_slice-rows.result.now = search rules in
    before_next c.args.d.now c.index-rows-place.result c.loop-i.i c.index-rows-i.result c.loop-i.best c.with_other-best.result
    (row_at c.args.d.now c.loop-i.i c.as_slice-rows.result.now c.index-rows-i.result is below c.index-rows-i.is)
    c.loop-i.invariant c.with_other-best.ensures

pub returns : goal.returns
returns c =
    let d = c.args.d.now in
    let within : c.args.place < length c.as_slice-rows.result.now = search rules in
    let row = row_at d c.args.place c.as_slice-rows.result.now c.index-rows-place.result c.as_slice-rows.ensures within c.index-rows-place.is in
    let all : c.loop-i.i ≡ c.args.place = omega (arith, c.loop-i-test.false, c.loop-i.auto.i-end) in
    let least = subst (λ (n : ℕ). IsLeast (OverlapsBefore d c.index-rows-place.result n) c.loop-i.best) all c.loop-i.invariant in
    λ other e. at_row d c.args.place c.index-rows-place.result other c.loop-i.best row e least
