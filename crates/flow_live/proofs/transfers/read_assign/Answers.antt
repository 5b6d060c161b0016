use Rattle.flow_live.proofs.Becoming.{reads_both}
use Rattle.flow_live.proofs.transfers.read_assign.Goals as goal
use Rattle.rtl_tree.specs.Same.{same_cell}
use Rattle.temp_machine.specs.Cells.{some_cell, some_goal_cell}

pub returns : goal.returns
returns c = reads_both (λ x. some_goal_cell (same_cell x) c.args.assign.now.to) (λ x. some_cell (same_cell x) c.args.assign.now.value) _ _ _ c.read_for_place.ensures c.read_value.ensures
