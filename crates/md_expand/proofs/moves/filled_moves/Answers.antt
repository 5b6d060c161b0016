use Rattle.std.proofs.Common.{◌≤◌, subst}
use Rattle.md_text.specs.Expansion.{move_with}
use Rattle.md_expand.specs.Filled.{BothFilled}
use Rattle.md_expand.proofs.FilledMoves.{one_move_more, no_move}
use Rattle.md_expand.proofs.moves.filled_moves.Goals as goal

pub returns-in-None : goal.returns-in-None
returns-in-None c = λ n ts all.
    no_move (n ≤ 256) ts c.args.moves.now c.loop-said.said-index c.said-item.result c.loop-said-test.true c.said-item.is
    (subst (BothFilled (n ≤ 256) (move_with ts c.said-item.result)) c.in-None.is (c.in_ok-filled.ensures n ts all))

pub loop-said-preserved : goal.loop-said-preserved
loop-said-preserved c = λ n ts all.
    one_move_more (n ≤ 256) ts c.args.moves.now c.loop-said.said-index c.said-item.result c.loop-said.all.items c.push.new.self.items c.in-Some.filled
    c.loop-said-test.true c.said-item.is (c.loop-said.invariant n ts all)
    (subst (BothFilled (n ≤ 256) (move_with ts c.said-item.result)) c.in-Some.is (c.in_ok-filled.ensures n ts all)) c.in_ok-push-in-Some.ensures.items
