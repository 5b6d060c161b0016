-- The routines of a program as one list of lines: the start, and then each function with its entry and its returns.
use Rattle.std.specs.Prelude.{ℕ, zero, suc, ◌+◌, ◌-◌, ◌^◌, ◌==◌, if◌then◌else◌, Bool, true, false, List, [], ◌∷◌, ◌++◌, length, Option, Some, None}
use Rattle.rtl_tree.specs.Trees.{Tree, Number, CodeLabel, Read, Load, Binary}
use Rattle.rtl_tree.specs.Moves.{Move, ToCell, ToMemory}
use Rattle.rtl_tree.specs.declared.cells.Cell.{Cell}
use Rattle.rtl_tree.specs.declared.cells.Cell.TheVariants.{Hard, Pc, Halt}
use Rattle.rtl_tree.specs.declared.cells.Lab.TheVariants.{Block, Function}
use Rattle.rtl_tree.specs.declared.expressions.Width.TheVariants.{Full}
use Rattle.rtl_tree.specs.declared.expressions.BinOp.TheVariants.{Add}
use Rattle.rtl_value.specs.declared.state.LabelAt.{LabelAt}
use Rattle.temp_machine.specs.Routines.{Exit, Falls, Jumps, Branches, Calls, Returns, BasicBlock, Routine, Image, Target, word_bytes}

-- the assignments of a transfer
abbrev pub Transfer : Type 0
Transfer = List Move

-- the transfers that linking writes
pub record Glue : Type 0 where
  pub set_stack : Transfer
  pub move_stack : ℕ → Transfer
  pub calling : ℕ → Transfer
  pub going_back : Transfer
  pub save : ℕ → Transfer
  pub fetch : ℕ → Transfer
  pub finish : Transfer

-- what is linked for a machine: the program, the added transfers, and the functions in the order in which they are written
pub record Job : Type 0 where
  pub t : Target
  pub p : Image
  pub glue : Glue
  pub order : List ℕ

abbrev pub set : Cell → Tree → Move
set c v = record { to = ToCell c; value = v }

abbrev pub store : Tree → Tree → Move
store a v = record { to = ToMemory Full a; value = v }

-- the label stands in the code
abbrev pub stands : List BasicBlock → ℕ → Bool
stands [] l = false
stands (b ∷ bs) l = if b.label == l then true else stands bs l

-- what the added transfers do, but for flags
module _ (t : Target) where
  -- an address so many bytes above the stack register
  abbrev pub above : ℕ → Tree
  above n = Binary Add (Read (Hard t.sp)) (Number n)

  -- the stack register is set to the end of memory
  abbrev pub set_stack : Transfer
  set_stack = set (Hard t.sp) (Number t.memory) ∷ []

  abbrev pub move_stack : ℕ → Transfer
  move_stack n = set (Hard t.sp) (above n) ∷ []

  -- n less than nothing, as a word
  abbrev pub minus : ℕ → ℕ
  minus n = 2 ^ t.word - n

  -- a call leaves the place to return to in the link register, or pushes it
  abbrev pub calling : Option ℕ → ℕ → Transfer
  calling (Some z) g = set (Hard z) (Read Pc) ∷ set Pc (CodeLabel (Function g)) ∷ []
  calling None g = store (above (minus (word_bytes t))) (Read Pc) ∷ set (Hard t.sp) (above (minus (word_bytes t))) ∷ set Pc (CodeLabel (Function g)) ∷ []

  abbrev pub going_back : Option ℕ → Transfer
  going_back (Some z) = set Pc (Read (Hard z)) ∷ []
  going_back None = set Pc (Load Full (Read (Hard t.sp))) ∷ set (Hard t.sp) (above (word_bytes t)) ∷ []

  -- the link register is saved in the frame, and fetched from there
  abbrev pub save : ℕ → ℕ → Transfer
  save z k = store (above k) (Read (Hard z)) ∷ []

  abbrev pub fetch : ℕ → ℕ → Transfer
  fetch z k = set (Hard z) (Load Full (above k)) ∷ []

  -- the result is the status
  abbrev pub finish : Transfer
  finish = set Halt (Read (Hard t.result)) ∷ []

-- the lines of a function
module _ (t : Target) (g : Glue) where
  abbrev pub entry : Option ℕ → Routine → List Transfer
  entry (Some z) c = g.move_stack (minus t c.frame) ∷ g.save (c.first_home - word_bytes t) ∷ []
  entry None c = g.move_stack (minus t c.frame) ∷ []

  abbrev pub leave : Option ℕ → Routine → List Transfer
  leave (Some z) c = g.fetch (c.first_home - word_bytes t) ∷ g.move_stack c.frame ∷ g.going_back ∷ []
  leave None c = g.move_stack c.frame ∷ g.going_back ∷ []

  abbrev pub end_lines : Option ℕ → Routine → Exit → List Transfer
  end_lines l c Falls = []
  end_lines l c (Jumps ms) = ms ∷ []
  end_lines l c (Branches ms) = ms ∷ []
  end_lines l c (Calls ms) = ms ∷ []
  end_lines l c Returns = leave l c

  abbrev pub block_lines : Option ℕ → Routine → BasicBlock → List Transfer
  block_lines l c b = b.body ++ end_lines l c b.exit

  abbrev pub lines_of : Option ℕ → Routine → List BasicBlock → List Transfer
  lines_of l c [] = []
  lines_of l c (b ∷ bs) = block_lines l c b ++ lines_of l c bs

  -- the lines before the block at position k
  abbrev pub offset : Option ℕ → Routine → List BasicBlock → ℕ → ℕ
  offset l c bs zero = 0
  offset l c [] (suc k) = 0
  offset l c (b ∷ bs) (suc k) = length (block_lines l c b) + offset l c bs k

  abbrev pub code_lines : Option ℕ → Routine → List Transfer
  code_lines l c = entry l c ++ lines_of l c c.blocks

module _ (j : Job) where
  abbrev pub code : ℕ → Routine
  code f = j.p.routines f

  abbrev pub all_lines : List ℕ → List Transfer
  all_lines [] = []
  all_lines (f ∷ fs) = code_lines j.t j.glue j.t.link (code f) ++ all_lines fs

  -- the start calls main and ends with its result
  abbrev pub start_lines : List Transfer
  start_lines = j.glue.set_stack ∷ j.glue.calling j.p.main ∷ j.glue.finish ∷ []

  abbrev pub program : List Transfer
  program = start_lines ++ all_lines j.order

  -- the lines before a function, counted from the first function
  abbrev pub before : List ℕ → ℕ → ℕ
  before [] f = 0
  before (g ∷ gs) f = if g == f then 0 else length (code_lines j.t j.glue j.t.link (code g)) + before gs f

  abbrev pub function_place : ℕ → ℕ
  function_place f = 3 + before j.order f

  abbrev pub block_place : ℕ → ℕ → ℕ
  block_place f k = function_place f + length (entry j.t j.glue j.t.link (code f)) + offset j.t j.glue j.t.link (code f) (code f).blocks k

  -- the labels of blocks, from the block at position k on
  abbrev pub block_labels : ℕ → List BasicBlock → ℕ → List LabelAt
  block_labels f [] k = []
  block_labels f (b ∷ bs) k = record { label = Block b.label; at = block_place f k } ∷ block_labels f bs (suc k)

  -- the labels of functions and blocks, in the order of the lines
  abbrev pub labels_of : List ℕ → List LabelAt
  labels_of [] = []
  labels_of (f ∷ fs) = record { label = Function f; at = function_place f } ∷ (block_labels f (code f).blocks 0 ++ labels_of fs)
