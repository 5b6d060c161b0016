use Rattle.std.proofs.Common.{◌≡◌, ◌∙◌, ◌<◌, ◌+◌, ℕ, subst, sym, get_or, set, arith}
use Rattle.std.proofs.lemmas.List.{length-set}
use Rattle.std.proofs.lemmas.List.Edits.{fill_by_more}
use Rattle.std.proofs.lemmas.List.FromFn.{fill_by_all}
use Rattle.md_shapes.specs.declared.table.Shape.{Shape}
use Rattle.md_shapes.specs.Shapes.{shape_by}
use Rattle.md_shapes.proofs.table.shapes.Goals as goal

pub loop-place-preserved : goal.loop-place-preserved
loop-place-preserved c =
    let long = c.loop-place.invariant.0 in
    let below = c.loop-place-test.true in (
      length-set c.loop-place.list c.loop-place.place c.shape_at.result ∙ long,
      subst (λ (x : Shape). (k : ℕ) → k < c.loop-place.place + 1 → get_or (set c.loop-place.list c.loop-place.place x) k (shape_by 0) ≡ shape_by k)
          (sym c.shape_at.ensures)
          (fill_by_more shape_by c.loop-place.list c.loop-place.place (shape_by 0) (omega (arith, long, below)) c.loop-place.invariant.1),
    )

pub returns : goal.returns
returns c =
    let past = c.loop-place-test.false in
    fill_by_all shape_by c.loop-place.list 137 (shape_by 0) c.loop-place.invariant.0
    (λ k l. c.loop-place.invariant.1 k (omega (arith, l, past)))
