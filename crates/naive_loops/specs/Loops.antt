-- The loops of naive code, among operations and among blocks.
use Rattle.std.specs.Prelude.{◌≡◌, ℕ, suc, ◌+◌, List, ◌∷◌, ◌++◌, length, Some, Contains}
use Rattle.md_rows.specs.declared.description.RawDescription.{RawDescription}
use Rattle.md_shapes.specs.Shapes.{Frame as Fixed}
use Rattle.md_covers.specs.Covers.{frame_in}
use Rattle.md_check.specs.Checking.{IsChecked}
use Rattle.temp_machine.specs.Flow.{IsLoop}
use Rattle.temp_code.specs.declared.code.Code.{Code}
use Rattle.temp_code.specs.Routines.{routine_of}
use Rattle.naive_code.specs.Operations.{Stop, Falls, Jumps, Branches, Calls, Returns, Op, Close}
use Rattle.naive_builder.specs.Appending.{opened}
use Rattle.naive_builder.specs.Finished.{AreOnce}
use Rattle.naive_forms.specs.Codes.{IsBuilt}

-- the end of a block leads to a label
abbrev pub LeadsTo : ℕ → Stop → Type 0
LeadsTo m (Jumps l) = l ≡ m
LeadsTo m (Branches r a b l) = l ≡ m
LeadsTo m Falls = ⊥
LeadsTo m (Calls g) = ⊥
LeadsTo m Returns = ⊥

-- no operation of a list leads to a label
abbrev pub Spares : ℕ → List Op → Type 0
Spares m os = (stop : Stop) (l : ℕ) → Contains os (Close stop l) → LeadsTo m stop → ⊥

-- A loop among operations: the block before falls into it, its last block leads back to its first one, and what stands around it leads to none
-- of its labels.
pub record HasLoop (os before inside behind : List Op) (first : ℕ) (back : Stop) (next : ℕ) : Type 0 where
  pub stands : os ≡ before ++ Close Falls first ∷ (inside ++ Close back next ∷ behind)
  pub leads_back : LeadsTo first back
  pub before_spares : (m : ℕ) → Contains (first ∷ opened inside) m → Spares m before
  pub behind_spares : (m : ℕ) → Contains (first ∷ opened inside) m → Spares m behind

-- how many blocks operations end
abbrev pub ended : List Op → ℕ
ended os = length (opened os)

-- what is built has the loop, from the block that is opened behind `before` to the one that leads back
abbrev pub BuiltHasLoop : Type 0
BuiltHasLoop =
    (w : ℕ) (d : RawDescription) (m : Fixed) (label : ℕ) (os before inside behind : List Op) (first : ℕ) (back : Stop) (next : ℕ) (c : Code)
    → IsChecked w d → frame_in d ≡ Some m → AreOnce (label ∷ opened os) → HasLoop os before inside behind first back next → IsBuilt d m label os c
    → IsLoop d.word (routine_of c) (ended before) (suc (ended before)) (suc (ended before) + ended inside)
