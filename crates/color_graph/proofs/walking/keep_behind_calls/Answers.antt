use Rattle.color_graph.proofs.Falling.{calls_next}
use Rattle.color_graph.proofs.walking.keep_behind_calls.Goals as goal

pub loop-at-preserved : goal.loop-at-preserved
loop-at-preserved c =
    calls_next c.loop-at.at c.args.blocks.now c.args.live.now c.args.words.now c.loop-at.words c.keep_behind.new.words c.keep_behind.ensures c.loop-at.invariant
