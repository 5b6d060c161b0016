-- Well-formed transfers.
use Rattle.std.specs.Prelude.{ℕ, suc, ◌<◌, ◌≤◌, ◌≡◌, max, nat_le, Bool, true, false, not, ◌&&◌, List, length, count_by, All, AllPairs}
use Rattle.rtl_tree.specs.declared.cells.Cell.TheVariants.{Hard, Temp, Flag, Pc, Input, Output, Halt, Hole}
use Rattle.rtl_tree.specs.declared.expressions.UnOp.TheVariants.{Test}
use Rattle.rtl_tree.specs.declared.expressions.BinOp.TheVariants.{Pair, When}
use Rattle.rtl_tree.specs.declared.constructs.Construct.{Construct}
use Rattle.rtl_tree.specs.declared.constructs.Construct.TheVariants.{Compared, Jump, Taken, Written}
use Rattle.rtl_tree.specs.Trees.{Tree, Read, Load, Unary, Binary, NoPair}
use Rattle.rtl_tree.specs.Moves.{Goal, ToCell, ToMemory, Move}
use Rattle.rtl_tree.specs.Same.{same_cell}

-- the depth of a tree; a leaf has depth 1
abbrev pub depth : Tree → ℕ
depth (Load w a) = suc (depth a)
depth (Unary o a) = suc (depth a)
depth (Binary o a b) = suc (max (depth a) (depth b))
depth _ = 1

-- whether the root of a tree is such a construct
abbrev pub is_construct : Construct → Tree → Bool
is_construct Compared (Binary Pair a b) = true
is_construct Compared NoPair = true
is_construct Jump (Binary When c l) = true
is_construct Taken (Read Input) = true
is_construct Written (Read Output) = true
is_construct Written (Read Halt) = true
is_construct _ _ = false

-- whether such a construct stands nowhere in a tree
abbrev pub free_of : Construct → Tree → Bool
free_of k (Load w a) = free_of k a
free_of k (Unary o a) = free_of k a
free_of k (Binary o a b) = not (is_construct k (Binary o a b)) && (free_of k a && free_of k b)
free_of k t = not (is_construct k t)

-- whether such a construct stands nowhere in an assignment
abbrev pub free_of_both : Construct → Goal → Tree → Bool
free_of_both k (ToCell c) t = free_of k t
free_of_both k (ToMemory w a) t = free_of k a && free_of k t

-- whether such a construct stands nowhere in a tree but perhaps at its root
abbrev pub free_below : Construct → Tree → Bool
free_below k (Load w a) = free_of k a
free_below k (Unary o a) = free_of k a
free_below k (Binary o a b) = free_of k a && free_of k b
free_below k _ = true

abbrev pub is_flag : Tree → Bool
is_flag (Read (Flag n)) = true
is_flag _ = false

-- whether a flag is read only under a test, and a test stands only over a flag
abbrev pub flags_tested : Tree → Bool
flags_tested (Unary (Test r) a) = is_flag a
flags_tested (Unary o a) = flags_tested a
flags_tested (Load w a) = flags_tested a
flags_tested (Binary o a b) = flags_tested a && flags_tested b
flags_tested t = not (is_flag t)

-- a pair and `lost` stand only as the whole value of a flag, and nothing else is assigned to a flag
abbrev pub compares_for_flag : Goal → Tree → Bool
compares_for_flag (ToCell (Flag n)) t = is_construct Compared t && free_below Compared t
compares_for_flag g t = free_of_both Compared g t

-- `->` stands only as the whole value of the program counter
abbrev pub jumps_by_counter : Goal → Tree → Bool
jumps_by_counter (ToCell Pc) t = free_below Jump t
jumps_by_counter g t = free_of_both Jump g t

-- the input stands only as the whole value of a register or temporary, and is never assigned
abbrev pub takes_for_register : Goal → Tree → Bool
takes_for_register (ToCell (Hard n)) t = free_below Taken t
takes_for_register (ToCell (Temp n)) t = free_below Taken t
takes_for_register (ToCell (Hole n)) t = free_below Taken t
takes_for_register (ToCell Input) t = false
takes_for_register g t = free_of_both Taken g t

-- the output and the status are never read
abbrev pub reads_no_output : Goal → Tree → Bool
reads_no_output g t = free_of_both Written g t

-- flags are read only under tests, which stand only over flags
abbrev pub tests_flags : Goal → Tree → Bool
tests_flags (ToCell c) t = flags_tested t
tests_flags (ToMemory w a) t = flags_tested a && flags_tested t

-- the value and the place, which counts as a tree, have depth at most 32
abbrev pub is_shallow : Goal → Tree → Bool
is_shallow (ToCell c) t = nat_le (depth t) 32
is_shallow (ToMemory w a) t = nat_le (suc (depth a)) 32 && nat_le (depth t) 32

abbrev pub is_store : Goal → Bool
is_store (ToCell c) = false
is_store (ToMemory w a) = true

abbrev pub same_goal_cell : Goal → Goal → Bool
same_goal_cell (ToCell c) (ToCell d) = same_cell c d
same_goal_cell _ _ = false

-- whether two assignments set no cell both; one that takes the input sets the cell Input as well
abbrev pub set_apart : Move → Move → Bool
set_apart m n = not (same_goal_cell m.to n.to) && not (is_construct Taken m.value && is_construct Taken n.value)

-- each part of an assignment stands where it may
pub record IsPlaced (m : Move) : Type 0 where
  pub shallow : is_shallow m.to m.value ≡ true
  pub flags : compares_for_flag m.to m.value ≡ true
  pub tests : tests_flags m.to m.value ≡ true
  pub jumps : jumps_by_counter m.to m.value ≡ true
  pub input : takes_for_register m.to m.value ≡ true
  pub output : reads_no_output m.to m.value ≡ true

-- one to six assignments, each part where it may stand, no cell assigned twice, and at most one store
pub record IsWellFormed (ms : List Move) : Type 0 where
  pub nonempty : 0 < length ms
  pub short : length ms ≤ 6
  pub placed : All IsPlaced ms
  pub once : AllPairs (λ m n. set_apart m n ≡ true) ms
  pub one_store : count_by (λ m. is_store m.to) ms ≤ 1
