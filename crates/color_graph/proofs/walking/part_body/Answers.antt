use Rattle.std.proofs.Common.{length, refl}
use Rattle.std.proofs.lemmas.Option.{slice_get_read}
use Rattle.color_graph.proofs.Falling.{body_next}
use Rattle.color_graph.proofs.walking.part_body.Goals as goal

pub loop-at-preserved : goal.loop-at-preserved
loop-at-preserved c =
    body_next c.loop-at.at c.args.block c.args.body.now c.index-body-at.result c.args.live.now c.args.rows.now.items c.loop-at.rows.items c.part_transfer.new.rows.items
    (slice_get_read c.args.body.now (length c.args.body.now) c.loop-at.at c.index-body-at.result refl c.loop-at-test.true c.index-body-at.is)
    c.part_transfer.ensures.count c.part_transfer.ensures.rows c.loop-at.invariant
