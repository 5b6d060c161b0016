use Rattle.flow_live.specs.Rows.{has_bit}
use Rattle.flow_live.proofs.Becoming.{moves_done}
use Rattle.flow_live.proofs.transfers.go_before_moves.Goals as goal

pub returns : goal.returns
returns c = moves_done (λ n. has_bit c.args.dead_flags n) c.args.transfer.now.what _ _ _ c.set_by.ensures c.read_by.ensures
