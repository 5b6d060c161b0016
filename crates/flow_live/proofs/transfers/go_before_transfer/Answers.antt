use Rattle.temp_machine.specs.Live.{Transfer}
use Rattle.flow_live.proofs.Becoming.{item_done}
use Rattle.flow_live.proofs.transfers.go_before_transfer.Goals as goal

pub returns-clause-before : goal.returns-clause-before
returns-clause-before c = λ t r stands. item_done t r c.args.standing.now stands (Transfer c.args.transfer.now.what) _ _ _ c.go_before_moves.ensures c.remove_registers.ensures
