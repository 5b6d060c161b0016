-- Code as its transfers: what the temporary machine runs, and what each pass is measured by.
use Rattle.std.specs.Prelude.{ℕ, ◌/◌, Bool, List, [], ◌∷◌, ◌++◌, Option, Some, None}
use Rattle.rtl_tree.specs.Moves.{Move}

-- how a basic block ends; a jump, a branch and a call have a transfer of their own
pub data Exit : Type 0 where
  Falls : Exit
  Jumps : List Move → Exit
  Branches : List Move → Exit
  Calls : List Move → Exit
  Returns : Exit

pub record BasicBlock : Type 0 where
  pub label : ℕ
  pub body : List (List Move)
  pub exit : Exit

-- the code of a function: the number of its parameters, the bytes of its frame, where its homes begin there, how many they are, the home
-- of each temporary, and its blocks, of which the first is entered
pub record Routine : Type 0 where
  pub params : ℕ
  pub frame : ℕ
  pub first_home : ℕ
  pub slots : ℕ
  pub homes : List ℕ
  pub blocks : List BasicBlock

-- a function that isn't there has no block
abbrev pub no_routine : Routine
no_routine = record { params = 0; frame = 0; first_home = 0; slots = 0; homes = []; blocks = [] }

-- the routines of a program by the numbers of their functions, the function that is started, the addresses of its objects, and the bytes
-- of its data
pub record Image : Type 0 where
  pub routines : ℕ → Routine
  pub main : ℕ
  pub symbols : List ℕ
  pub bytes : List ℕ

-- what a description says of its machine: the bits of a word, the bytes of memory, where data begin, the bytes that the stack may take,
-- the registers of the roles, the general registers, and those that a call keeps
pub record Target : Type 0 where
  pub word : ℕ
  pub memory : ℕ
  pub base : ℕ
  pub stack : ℕ
  pub sp : ℕ
  pub result : ℕ
  pub link : Option ℕ
  pub general : ℕ → Bool
  pub kept : List ℕ

-- the bytes of a word
abbrev pub word_bytes : Target → ℕ
word_bytes t = t.word / 8

-- where there is no link register, a call pushes the place to return to
abbrev pub pushed_by : Option ℕ → ℕ → ℕ
pushed_by (Some link) bytes = 0
pushed_by None bytes = bytes

abbrev pub pushed : Target → ℕ
pushed t = pushed_by t.link (word_bytes t)

-- the transfers of a block, that of its end last
abbrev pub exit_transfers : Exit → List (List Move)
exit_transfers Falls = []
exit_transfers (Jumps ms) = ms ∷ []
exit_transfers (Branches ms) = ms ∷ []
exit_transfers (Calls ms) = ms ∷ []
exit_transfers Returns = []

abbrev pub block_transfers : BasicBlock → List (List Move)
block_transfers b = b.body ++ exit_transfers b.exit
