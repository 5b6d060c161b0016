use Rattle.std.proofs.Common.{ap, ◌∙◌}
use Rattle.std.specs.List.{list_all}
use Rattle.flow_blocks.specs.Flows.{previous_at}
use Rattle.flow_loops.specs.Looping.{is_near}
use Rattle.flow_loops.proofs.Listing.{along_more}
use Rattle.flow_loops.proofs.looping.is_entered_once.Goals as goal

pub loop-k-preserved : goal.loop-k-preserved
loop-k-preserved c =
    along_more (λ k. list_all (is_near c.args.first c.args.last) (previous_at c.args.f.now k)) c.args.first c.loop-k.k c.args.last c.are_near.result c.loop-k-test.true
    (c.are_near.ensures ∙ ap (list_all (is_near c.args.first c.args.last)) c.previous_at.ensures) c.if-not-are_near.false c.loop-k.invariant
