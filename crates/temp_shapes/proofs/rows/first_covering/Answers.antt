use Rattle.std.proofs.Common.{◌≡◌, ◌<◌, ℕ, length, slice_get, Some, refl, subst, sym, ap, arith, ◌∙◌}
use Rattle.md_check.proofs.Rows.{item_at, not_covered_next, within}
use Rattle.temp_shapes.proofs.rows.first_covering.Goals as goal

pub covers-requires-clause-row : goal.covers-requires-clause-row
covers-requires-clause-row g c =
    c.requires.rows c.loop-i.i c.index-rows-i.result
    (item_at c.loop-i.i c.as_slice-rows.result.now c.args.d.now.rows c.index-rows-i.result c.as_slice-rows.ensures c.loop-i-test.true c.index-rows-i.is)

pub returns-then-covers : goal.returns-then-covers
returns-then-covers g c =
    let row = c.index-rows-i.result in
    let has = item_at c.loop-i.i c.as_slice-rows.result.now c.args.d.now.rows row c.as_slice-rows.ensures c.loop-i-test.true c.index-rows-i.is in
    (row, has, c.covers.ensures.0 c.if-covers.true)

pub loop-i-preserved : goal.loop-i-preserved
loop-i-preserved g c =
    let has = item_at c.loop-i.i c.as_slice-rows.result.now c.args.d.now.rows c.index-rows-i.result c.as_slice-rows.ensures c.loop-i-test.true c.index-rows-i.is in
    not_covered_next c.args.d.now c.args.shape c.loop-i.i c.index-rows-i.result c.covers.result has c.covers.ensures c.if-covers.false c.loop-i.invariant

pub returns : goal.returns
returns g c =
    λ x. c.loop-i.invariant x.at x.row (within c.args.d.now.rows c.as_slice-rows.result.now c.loop-i.i x.at x.row c.as_slice-rows.ensures c.loop-i-test.false x.has) x.has x.covers
