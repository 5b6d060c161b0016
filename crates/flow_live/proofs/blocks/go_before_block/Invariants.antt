use Rattle.std.specs.Prelude.{◌≡◌, ◌≤◌, drop, length, map}
use Rattle.rtl_tree.specs.Sets.{has_cell}
use Rattle.temp_machine.specs.Routines.{Routine, Target}
use Rattle.temp_code.specs.Routines.{exit_of}
use Rattle.flow_live.specs.Rows.{Becomes, bits_in}
use Rattle.flow_live.specs.Walks.{Stands, body_dead}
use Rattle.flow_live.proofs.blocks.go_before_block.Given as goal

abbrev pub invariant-loop-at : goal.invariant-loop-at
invariant-loop-at l =
    (l.at ≤ length l.block.body)
    × (length l.row.temporaries.items ≡ length l.fn.row.temporaries.items)
    × ((t : Target) (r : Routine) → Stands t r l.standing
    → Becomes (body_dead t r (drop l.at (map (λ x. x.what) l.block.body)) (exit_of l.block.end) (has_cell (bits_in l.fn.row))) (bits_in l.fn.row) (bits_in l.row))

abbrev pub decreases-loop-at : goal.decreases-loop-at
decreases-loop-at l = l.at
