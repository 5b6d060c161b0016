use Rattle.std.proofs.Common.{◌≡◌, ℕ, ◌≤◌, length, drop, map}
use Rattle.std.specs.Prelude.{nat_eq}
use Rattle.std.specs.Option.{unwrap_or}
use Rattle.std.specs.HashMap.{get}
use Rattle.temp_machine.specs.Machine.{position}
use Rattle.temp_code.specs.Routines.{block_of}
use Rattle.flow_blocks.proofs.labels.positions_by_label.Given as goal

abbrev pub invariant-loop-at : goal.invariant-loop-at
invariant-loop-at l = (l.at ≤ length l.blocks) × ((q : ℕ) → unwrap_or (get nat_eq l.first q) (length l.blocks) ≡ position (drop l.at (map block_of l.blocks)) q l.at)

abbrev pub decreases-loop-at : goal.decreases-loop-at
decreases-loop-at l = l.at
