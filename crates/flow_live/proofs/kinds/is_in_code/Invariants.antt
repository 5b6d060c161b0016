use Rattle.std.proofs.Common.{◌≡◌, drop, map}
use Rattle.std.specs.List.{list_any}
use Rattle.temp_machine.specs.Routines.{block_transfers}
use Rattle.temp_machine.specs.Cells.{mentions}
use Rattle.temp_code.specs.Routines.{block_of}
use Rattle.flow_live.specs.Walks.{of_kind}
use Rattle.flow_live.proofs.kinds.is_in_code.Given as goal

abbrev pub invariant-loop-i : goal.invariant-loop-i
invariant-loop-i l =
    list_any (λ b. list_any (mentions (of_kind l.kind)) (block_transfers b)) (map block_of (drop l.i l.c.blocks))
    ≡ list_any (λ b. list_any (mentions (of_kind l.kind)) (block_transfers b)) (map block_of l.c.blocks)
