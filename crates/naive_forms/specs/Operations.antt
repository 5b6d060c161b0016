-- What the operations of naive code name, and where they go.
use Rattle.std.specs.Prelude.{◌≡◌, ℕ, ◌<◌, ◌≤◌, max, true, false, List, ◌∷◌, length, slice_get, Some, All, Contains}
use Rattle.rtl_tree.specs.declared.cells.Cell.{Cell}
use Rattle.rtl_tree.specs.declared.cells.Cell.TheVariants.{Temp}
use Rattle.c_tree.specs.declared.typed.Function.{Function}
use Rattle.c_tree.specs.declared.typed.Typed.{Typed}
use Rattle.c_limits.specs.Depths.{greatest_in, arguments_of}
use Rattle.temp_laws.specs.Conditions.{moves_stack}
use Rattle.naive_code.specs.Operations.{Stop, Falls, Jumps, Branches, Calls, Returns, Op, Make, Meet, Scale, Extend, Close}
use Rattle.naive_code.specs.Functions.{function_ops}
use Rattle.naive_run.specs.Sound.{is_sound_function}
use Rattle.naive_builder.specs.Appending.{opened}

-- ---- names

abbrev pub IsTemporaryBelow : ℕ → Cell → Type 0
IsTemporaryBelow n (Temp i) = i < n
IsTemporaryBelow n _ = ⊥

abbrev pub StopBelow : ℕ → Stop → Type 0
StopBelow n (Branches r a b l) = (a < n) × (b < n)
StopBelow n _ = Unit {0}

-- the operands of an operation are temporaries below a number
abbrev pub NamesBelow : ℕ → Op → Type 0
NamesBelow n (Make p o) = IsTemporaryBelow n o.a × IsTemporaryBelow n o.b
NamesBelow n (Meet a b) = (a < n) × (b < n)
NamesBelow n (Scale a spare) = (a < n) × (spare < n)
NamesBelow n (Extend a spare) = (a < n) × (spare < n)
NamesBelow n (Close stop l) = StopBelow n stop

-- ---- targets

-- a function of the source with at most so many parameters
abbrev pub IsCallee : Typed → (most : ℕ) → ℕ → Type 0
IsCallee t most g = (f : Function) × (slice_get t.functions g ≡ Some f) × (length f.params ≤ most)

module _ (t : Typed) (labels : ℕ → Type 0) (most : ℕ) where
  abbrev pub StopGoes : Stop → Type 0
  StopGoes Falls = Unit {0}
  StopGoes (Jumps l) = labels l
  StopGoes (Branches r a b l) = labels l
  StopGoes (Calls g) = IsCallee t most g
  StopGoes Returns = Unit {0}

  -- only calls move the stack; jumps go to labels with a property, and calls to functions of the source with at most so many parameters
  abbrev pub Goes : Op → Type 0
  Goes (Make p o) = moves_stack p ≡ false
  Goes (Meet a b) = Unit {0}
  Goes (Scale a spare) = Unit {0}
  Goes (Extend a spare) = Unit {0}
  Goes (Close stop l) = StopGoes stop

-- the most arguments of a call that a function's frame has words for
abbrev pub most_arguments : Function → ℕ
most_arguments f = max 2 (greatest_in arguments_of f.body)

-- Jumps of a sound function go to labels that it opens or to its first block.
abbrev pub OperationsGo : Type 0
OperationsGo =
    (kept : List ℕ) (w pushed : ℕ) (t : Typed) (f : Function) (label : ℕ) → is_sound_function kept w t f ≡ true
    → All (Goes t (Contains (label ∷ opened (function_ops kept w pushed t f label))) (most_arguments f)) (function_ops kept w pushed t f label)
