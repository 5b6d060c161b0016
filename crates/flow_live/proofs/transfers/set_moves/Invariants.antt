use Rattle.std.specs.Prelude.{◌||◌, take}
use Rattle.rtl_tree.specs.Same.{same_cell}
use Rattle.rtl_tree.specs.Sets.{has_cell}
use Rattle.temp_machine.specs.Cells.{some_set}
use Rattle.flow_live.specs.Rows.{Becomes, bits_in}
use Rattle.flow_live.proofs.transfers.set_moves.Given as goal

abbrev pub invariant-loop-i : goal.invariant-loop-i
invariant-loop-i l = Becomes (λ c. has_cell (bits_in l.fn.row) c || some_set (same_cell c) (take l.i l.moves)) (bits_in l.fn.row) (bits_in l.row)
