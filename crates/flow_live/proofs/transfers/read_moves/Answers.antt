use Rattle.flow_live.specs.Rows.{has_bit}
use Rattle.flow_live.proofs.Becoming.{read_more}
use Rattle.flow_live.proofs.transfers.read_moves.Goals as goal

pub loop-i-preserved : goal.loop-i-preserved
loop-i-preserved c =
    read_more (λ n. has_bit c.args.dead_flags n) c.args.moves.now c.loop-i.i c.index-moves-i.result _ _ _ c.loop-i-test.true c.index-moves-i.is c.loop-i.invariant c.read_counted.ensures
