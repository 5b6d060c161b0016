-- Loads of homes and stores to them.
use Rattle.std.specs.Prelude.{ℕ, ◌+◌, ◌*◌, List, [], ◌∷◌, slice_index}
use Rattle.rtl_tree.specs.declared.cells.Cell.TheVariants.{Hard}
use Rattle.rtl_tree.specs.declared.expressions.Width.TheVariants.{Full}
use Rattle.rtl_tree.specs.declared.expressions.BinOp.TheVariants.{Add}
use Rattle.rtl_tree.specs.Trees.{Tree, Number, Read, Load, Binary}
use Rattle.rtl_tree.specs.Moves.{ToCell, ToMemory, Move}
use Rattle.md_filled.specs.Doing.{DoesAs}
use Rattle.temp_machine.specs.Routines.{Routine, Target, word_bytes}

-- the word so many bytes above the stack register
abbrev pub above_stack : ℕ → ℕ → Tree
above_stack sp offset = Binary Add (Read (Hard sp)) (Number offset)

abbrev pub load_moves : ℕ → ℕ → ℕ → List Move
load_moves sp register offset = record { to = ToCell (Hard register); value = Load Full (above_stack sp offset) } ∷ []

abbrev pub store_moves : ℕ → ℕ → ℕ → List Move
store_moves sp register offset = record { to = ToMemory Full (above_stack sp offset); value = Read (Hard register) } ∷ []

-- where the home of a temporary is in the frame
abbrev pub home_offset : Target → Routine → ℕ → ℕ
home_offset t r k = r.first_home + word_bytes t * slice_index r.homes k

module _ (t : Target) (r : Routine) (register : ℕ → ℕ) where
  -- a transfer for each temporary, which does as a load of its home into its register
  pub data AreLoads : List ℕ → List (List Move) → Type 0 where
    no_load : AreLoads [] []
    a_load : (k : ℕ) (ks : List ℕ) (ms : List Move) (rest : List (List Move)) → DoesAs t.word (load_moves t.sp (register k) (home_offset t r k)) ms
        → AreLoads ks rest → AreLoads (k ∷ ks) (ms ∷ rest)

  -- and as a store of its register
  pub data AreStores : List ℕ → List (List Move) → Type 0 where
    no_store : AreStores [] []
    a_store : (k : ℕ) (ks : List ℕ) (ms : List Move) (rest : List (List Move)) → DoesAs t.word (store_moves t.sp (register k) (home_offset t r k)) ms
        → AreStores ks rest → AreStores (k ∷ ks) (ms ∷ rest)
