-- The cells that a transfer reads and sets, and what a temporary stands in.
use Rattle.std.specs.Prelude.{ℕ, ◌||◌, ◌&&◌, not, Bool, true, false, List}
use Rattle.std.specs.List.{list_any}
use Rattle.rtl_tree.specs.declared.cells.Cell.{Cell}
use Rattle.rtl_tree.specs.declared.cells.Cell.TheVariants.{Hard, Temp, Flag, Input}
use Rattle.rtl_tree.specs.Trees.{Tree, Read, Load, Unary, Binary}
use Rattle.rtl_tree.specs.Moves.{Goal, ToCell, ToMemory, Move}
use Rattle.rtl_tree.specs.Same.{same_cell}
use Rattle.rtl_effect.specs.Effects.{takes}
use Rattle.temp_machine.specs.Routines.{Routine, block_transfers}

-- a cell of a tree has a property
abbrev pub some_cell : (Cell → Bool) → Tree → Bool
some_cell p (Read c) = p c
some_cell p (Load w a) = some_cell p a
some_cell p (Unary o a) = some_cell p a
some_cell p (Binary o a b) = some_cell p a || some_cell p b
some_cell p _ = false

-- of those that are read for the place of an assignment
abbrev pub some_goal_cell : (Cell → Bool) → Goal → Bool
some_goal_cell p (ToCell c) = false
some_goal_cell p (ToMemory w a) = some_cell p a

abbrev pub some_read : (Cell → Bool) → List Move → Bool
some_read p ms = list_any (λ m. some_goal_cell p m.to || some_cell p m.value) ms

abbrev pub sets_by : (Cell → Bool) → Goal → Bool
sets_by p (ToCell c) = p c
sets_by p (ToMemory w a) = false

abbrev pub some_set : (Cell → Bool) → List Move → Bool
some_set p ms = list_any (λ m. sets_by p m.to) ms

abbrev pub reads : Cell → List Move → Bool
reads c ms = some_read (same_cell c) ms

-- a read of the input counts as an assignment to it
abbrev pub sets : Cell → List Move → Bool
sets Input ms = takes ms
sets c ms = some_set (same_cell c) ms

abbrev pub is_temporary : Cell → Bool
is_temporary (Temp n) = true
is_temporary _ = false

abbrev pub is_flag : Cell → Bool
is_flag (Flag n) = true
is_flag _ = false

abbrev pub is_hard_among : (ℕ → Bool) → Cell → Bool
is_hard_among g (Hard n) = g n
is_hard_among g _ = false

-- a cell with the property stands in a transfer
abbrev pub mentions : (Cell → Bool) → List Move → Bool
mentions p ms = some_read p ms || some_set p ms

-- in a routine
abbrev pub uses : (Cell → Bool) → Routine → Bool
uses p r = list_any (λ b. list_any (mentions p) (block_transfers b)) r.blocks

-- whether a temporary stands in the code
abbrev pub has_temporaries : Routine → Bool
has_temporaries r = uses is_temporary r

-- A row may lose flags that nobody asks for, and what it assigns to them may read what it sets. So what a transfer reads beside such
-- assignments stands apart from what it reads for one flag.
abbrev pub move_reads : Cell → Move → Bool
move_reads c m = some_goal_cell (same_cell c) m.to || some_cell (same_cell c) m.value

abbrev pub reads_beside_flags : Cell → List Move → Bool
reads_beside_flags c ms = list_any (λ m. not (sets_by is_flag m.to) && move_reads c m) ms

abbrev pub reads_for_flag : ℕ → Cell → List Move → Bool
reads_for_flag n c ms = list_any (λ m. sets_by (same_cell (Flag n)) m.to && move_reads c m) ms
