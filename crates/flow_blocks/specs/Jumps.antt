-- The label of a jump, and where labels stand.
use Rattle.std.specs.Prelude.{◌≡◌, ℕ, nat_eq, Bool, true, false, List, Option, Some, None}
use Rattle.std.specs.Option.{unwrap_or}
use Rattle.std.specs.HashMap.{get}
use Rattle.rtl_tree.specs.declared.cells.Cell.TheVariants.{Pc}
use Rattle.rtl_tree.specs.declared.cells.Lab.TheVariants.{Block}
use Rattle.rtl_tree.specs.Trees.{Tree, CodeLabel}
use Rattle.rtl_tree.specs.Moves.{Goal, ToCell}
use Rattle.temp_machine.specs.Routines.{BasicBlock}
use Rattle.temp_machine.specs.Machine.{position}
use Rattle.flow_blocks.specs.declared.labels.Positions.{Positions}

abbrev pub block_label_in : Tree → Option ℕ
block_label_in (CodeLabel (Block l)) = Some l
block_label_in _ = None

abbrev pub is_counter : Goal → Bool
is_counter (ToCell Pc) = true
is_counter _ = false

-- where the table says that a label stands first
abbrev pub position_in : Positions → ℕ → ℕ
position_in p l = unwrap_or (get nat_eq p.first l) p.count

-- the table is that of these blocks
abbrev pub ArePositions : List BasicBlock → Positions → Type 0
ArePositions blocks p = (l : ℕ) → position_in p l ≡ position blocks l 0
