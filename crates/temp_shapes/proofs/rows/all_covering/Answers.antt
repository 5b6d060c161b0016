use Rattle.std.proofs.Common.{◌∙◌}
use Rattle.std.proofs.lemmas.List.{length-set}
use Rattle.temp_shapes.proofs.Table.{one_more_at}
use Rattle.temp_shapes.proofs.rows.all_covering.Goals as goal

pub loop-place-preserved : goal.loop-place-preserved
loop-place-preserved g c = record {
  long = length-set c.loop-place.rows c.loop-place.place c.first_covering.result ∙ c.loop-place.invariant.long;
  filled = one_more_at c.args.d.now c.loop-place.rows c.loop-place.place c.first_covering.result c.shapes.result.list _ c.shapes.ensures c.loop-place-test.true
      c.loop-place.invariant.long c.first_covering.ensures c.loop-place.invariant.filled;
}
