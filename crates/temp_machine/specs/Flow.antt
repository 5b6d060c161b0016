-- Where the flow goes in a routine: places, successors and loops.
use Rattle.std.specs.Prelude.{◌≡◌, ◌⊎◌, ℕ, suc, ◌<◌, ◌≤◌, List, [], ◌∷◌, length, slice_get, Option, Some, None, Contains}
use Rattle.rtl_tree.specs.declared.cells.Cell.TheVariants.{Pc}
use Rattle.rtl_tree.specs.declared.cells.Lab.TheVariants.{Block}
use Rattle.rtl_tree.specs.declared.expressions.BinOp.TheVariants.{When}
use Rattle.rtl_tree.specs.Trees.{Tree, CodeLabel, Binary}
use Rattle.rtl_tree.specs.Moves.{Move}
use Rattle.rtl_effect.specs.Effects.{assigned}
use Rattle.rtl_norm_value.specs.Effect.{with_normal_jump}
use Rattle.temp_machine.specs.Routines.{Exit, Falls, Jumps, Branches, Calls, Returns, BasicBlock, Routine}
use Rattle.temp_machine.specs.Machine.{position}

-- the label to which a value of the program counter goes, be it on a condition
abbrev pub label_by : Option Tree → Option ℕ
label_by (Some (CodeLabel (Block l))) = Some l
label_by (Some (Binary When c (CodeLabel (Block l)))) = Some l
label_by _ = None

abbrev pub label_of : ℕ → List Move → Option ℕ
label_of w ms = label_by (assigned (with_normal_jump w ms) Pc)

abbrev pub positions_by : List BasicBlock → Option ℕ → List ℕ
positions_by blocks (Some l) = position blocks l 0 ∷ []
positions_by blocks None = []

-- the positions of the blocks that follow the one at position k; a fall, a branch and a call go on to the next one
abbrev pub successors_by : ℕ → List BasicBlock → ℕ → Exit → List ℕ
successors_by w blocks k Falls = suc k ∷ []
successors_by w blocks k (Jumps ms) = positions_by blocks (label_of w ms)
successors_by w blocks k (Branches ms) = suc k ∷ positions_by blocks (label_of w ms)
successors_by w blocks k (Calls ms) = suc k ∷ []
successors_by w blocks k Returns = []

abbrev pub successors_at : ℕ → List BasicBlock → ℕ → Option BasicBlock → List ℕ
successors_at w blocks k (Some b) = successors_by w blocks k b.exit
successors_at w blocks k None = []

abbrev pub successors : ℕ → Routine → ℕ → List ℕ
successors w r k = successors_at w r.blocks k (slice_get r.blocks k)

-- a path of the flow leads from one block to another
pub data IsReached (w : ℕ) (r : Routine) (from : ℕ) : ℕ → Type 0 where
  start : IsReached w r from from
  onward : (k next : ℕ) → IsReached w r from k → Contains (successors w r k) next → IsReached w r from next

-- the block can be reached from the first
abbrev pub IsReachable : ℕ → Routine → ℕ → Type 0
IsReachable w r k = IsReached w r 0 k

-- a block lies in a run of blocks
pub record IsInRun (first last k : ℕ) : Type 0 where
  pub from : first ≤ k
  pub to : k ≤ last

-- a block of the routine ends with Fall
abbrev pub Falls_at : Routine → ℕ → Type 0
Falls_at r k = (b : BasicBlock) × (slice_get r.blocks k ≡ Some b) × (b.exit ≡ Falls)

-- a loop: a run of blocks whose last one leads back to the first, entered by falling into the first from the one before alone
pub record IsLoop (w : ℕ) (r : Routine) (before first last : ℕ) : Type 0 where
  pub order : first ≤ last
  pub last_is_block : last < length r.blocks
  pub back : Contains (successors w r last) first
  pub just_before : suc before ≡ first
  pub falls : Falls_at r before
  pub only_entry : (k next : ℕ) → Contains (successors w r k) next → IsInRun first last next → IsInRun first last k ⊎ (k ≡ before)
