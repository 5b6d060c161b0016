use Rattle.std.proofs.Common.{◌∙◌}
use Rattle.md_open.proofs.HoleNames.{open_pushed}
use Rattle.md_open.proofs.holes.open_holes.Goals as goal

pub loop-index-preserved : goal.loop-index-preserved
loop-index-preserved c =
    open_pushed c.loop-index.holes.items c.push.new.self.items c.args.names.now c.loop-index.index c.index-names-index.result c.in_ok-name.name.items c.loop-index-test.true c.loop-index.invariant
    (c.in_ok-name.ensures.items ∙ c.as_slice.ensures ∙ c.index-names-index.is) c.in_ok-push.ensures.items
