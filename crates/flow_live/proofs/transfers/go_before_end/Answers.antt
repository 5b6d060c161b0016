use Rattle.temp_machine.specs.Live.{End}
use Rattle.temp_code.specs.Routines.{exit_of}
use Rattle.flow_live.proofs.Becoming.{item_done}
use Rattle.flow_live.proofs.transfers.go_before_end.Goals as goal

pub returns-clause-before : goal.returns-clause-before
returns-clause-before c = λ t r stands. item_done t r c.args.standing.now stands (End (exit_of c.args.end.now)) _ _ _ (c.go_before_exit.ensures.before t r stands) c.remove_registers.ensures
