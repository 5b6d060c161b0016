-- What holds of each routine that a pass is given or gives.
use Rattle.std.specs.Prelude.{◌≡◌, ◌≢◌, ◌⊎◌, ℕ, ◌+◌, ◌-◌, ◌*◌, ◌/◌, ◌%◌, ◌^◌, ◌<◌, ◌≤◌, false, true, List, length, map, slice_get, Some, AllPairs, Contains}
use Rattle.rtl_tree.specs.declared.cells.Cell.TheVariants.{Hard, Temp, Pc}
use Rattle.rtl_tree.specs.declared.cells.Lab.TheVariants.{Block}
use Rattle.rtl_tree.specs.Trees.{CodeLabel}
use Rattle.rtl_tree.specs.Moves.{Move}
use Rattle.rtl_effect.specs.Effects.{assigned}
use Rattle.rtl_norm_value.specs.Effect.{with_normal_jump}
use Rattle.temp_machine.specs.Routines.{Exit, Jumps, Branches, Returns, BasicBlock, Routine, Target, word_bytes}
use Rattle.temp_machine.specs.Cells.{sets, uses}
use Rattle.rtl_tree.specs.Same.{same_cell}
use Rattle.temp_machine.specs.Live.{Place, Transfer, End, item_at}
use Rattle.temp_machine.specs.Flow.{label_of}
use Rattle.temp_machine.specs.Tidy.{transfer_count}

-- the routine has a block with this label
abbrev pub HasLabel : Routine → ℕ → Type 0
HasLabel r l = Contains (map (λ b. b.label) r.blocks) l

-- a block ends with a jump or a return, so that nothing is gone on to behind it
abbrev pub IsFinal : Exit → Type 0
IsFinal e = ((ms : List Move) × (e ≡ Jumps ms)) ⊎ (e ≡ Returns)

-- it has a block, and blocks of different labels; jumps and branches go to labels of its blocks; nothing falls out of its last block; and each
-- of its temporaries has a home. (Of a call's transfer this says nothing but its callee: that it is the machine's calling transfer is a condition by the description's rows.)
pub record IsWhole (w : ℕ) (r : Routine) : Type 0 where
  pub has_block : 0 < length r.blocks
  pub different : AllPairs (λ b c. b.label ≢ c.label) r.blocks
  pub few : transfer_count r ≤ 2 ^ 32 - 2
  pub jumps : (p : Place) (ms : List Move) → item_at r p ≡ Some (End (Jumps ms))
      → (l : ℕ) × (assigned (with_normal_jump w ms) Pc ≡ Some (CodeLabel (Block l))) × HasLabel r l
  pub branches : (p : Place) (ms : List Move) → item_at r p ≡ Some (End (Branches ms)) → (l : ℕ) × (label_of w ms ≡ Some l) × HasLabel r l
  pub last : (b : BasicBlock) → slice_get r.blocks (length r.blocks - 1) ≡ Some b → IsFinal b.exit
  pub homes : (n : ℕ) → uses (same_cell (Temp n)) r ≡ true → (h : ℕ) × (slice_get r.homes n ≡ Some h) × (h < r.slots)

-- the frame holds words: two outgoing arguments at least, the link word, one for each kept register, the homes, of which 16 are in reserve, and
-- behind these the arrays
pub record IsFramed (t : Target) (r : Routine) : Type 0 where
  pub frame_words : r.frame % word_bytes t ≡ 0
  pub home_words : r.first_home % word_bytes t ≡ 0
  pub short : r.frame ≤ 32000
  pub below_homes : word_bytes t * (3 + length t.kept) ≤ r.first_home
  pub reserve : 16 ≤ r.slots
  pub fits : r.first_home + word_bytes t * r.slots ≤ r.frame

-- only calls move the stack, and only ends of blocks jump
pub record IsStraight (t : Target) (r : Routine) : Type 0 where
  pub stack_in_bodies : (p : Place) (ms : List Move) → item_at r p ≡ Some (Transfer ms) → sets (Hard t.sp) ms ≡ false
  pub stack_in_jumps : (p : Place) (ms : List Move) → item_at r p ≡ Some (End (Jumps ms)) → sets (Hard t.sp) ms ≡ false
  pub stack_in_branches : (p : Place) (ms : List Move) → item_at r p ≡ Some (End (Branches ms)) → sets (Hard t.sp) ms ≡ false
  pub counter : (p : Place) (ms : List Move) → item_at r p ≡ Some (Transfer ms) → sets Pc ms ≡ false

-- the words for the arguments of the routine's calls
abbrev pub outgoing_words : Target → Routine → ℕ
outgoing_words t r = (r.first_home - word_bytes t * (1 + length t.kept)) / word_bytes t
