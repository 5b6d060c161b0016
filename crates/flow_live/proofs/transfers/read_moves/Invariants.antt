use Rattle.std.specs.Prelude.{◌&&◌, not, take}
use Rattle.rtl_tree.specs.Sets.{has_cell}
use Rattle.flow_live.specs.Rows.{Becomes, bits_in, has_bit}
use Rattle.flow_live.specs.Walks.{moves_read}
use Rattle.flow_live.proofs.transfers.read_moves.Given as goal

abbrev pub invariant-loop-i : goal.invariant-loop-i
invariant-loop-i l =
    Becomes (λ c. has_cell (bits_in l.fn.row) c && not (moves_read (λ n. has_bit l.dead_flags n) c (take l.i l.moves))) (bits_in l.fn.row) (bits_in l.row)
