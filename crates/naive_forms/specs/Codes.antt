-- Naive code is such as each pass may ask.
use Rattle.std.specs.Prelude.{◌≡◌, ℕ, ◌+◌, ◌*◌, ◌<◌, ◌≤◌, true, List, ◌∷◌, length, Some, All, Contains}
use Rattle.md_rows.specs.declared.description.RawDescription.{RawDescription}
use Rattle.md_shapes.specs.Shapes.{Frame as Fixed}
use Rattle.md_covers.specs.Covers.{frame_in}
use Rattle.md_check.specs.Checking.{IsChecked}
use Rattle.c_tree.specs.declared.typed.Function.{Function}
use Rattle.c_tree.specs.declared.typed.Typed.{Typed}
use Rattle.c_limits.specs.Frames.{frame_bytes}
use Rattle.c_limits.specs.Weights.{function_weight}
use Rattle.temp_machine.specs.Routines.{Target, pushed}
use Rattle.temp_machine.specs.Whole.{IsStraight, outgoing_words}
use Rattle.temp_machine.specs.Tidy.{IsTidy, transfer_count, return_count, padded_room}
use Rattle.temp_machine.specs.Units.{IsSound}
use Rattle.temp_code.specs.declared.code.Code.{Code}
use Rattle.temp_code.specs.Routines.{routine_of}
use Rattle.temp_laws.specs.Targets.{target_of}
use Rattle.naive_code.specs.Operations.{Op}
use Rattle.naive_code.specs.Functions.{function_ops, function_homes, slots_of, first_home_of}
use Rattle.naive_run.specs.Sound.{is_sound_function}
use Rattle.naive_counts.specs.Counts.{most_with}
use Rattle.naive_counts.specs.Names.{names_scalars}
use Rattle.naive_counts.specs.Homes.{fills_lists}
use Rattle.naive_builder.specs.Appending.{Emitted, begun, Appends, opened}
use Rattle.naive_builder.specs.Finished.{finished, AreOnce}
use Rattle.naive_forms.specs.Operations.{NamesBelow, Goes, most_arguments}

-- what operations append to one empty block, finished
pub record IsBuilt (d : RawDescription) (m : Fixed) (label : ℕ) (os : List Op) (c : Code) : Type 0 where
  pub emitted : Emitted
  pub appends : Appends d m (begun label) os emitted
  pub blocks : c.blocks ≡ finished emitted

-- ---- code of any operations

-- whose operands are temporaries, which leave the stack where it is and jump to their own labels: it is straight and tidy
abbrev pub BuiltIsTidy : Type 0
BuiltIsTidy =
    (w : ℕ) (d : RawDescription) (m : Fixed) (kept : List ℕ) (label : ℕ) (t : Typed) (most n : ℕ) (os : List Op) (c : Code)
    → IsChecked w d → frame_in d ≡ Some m → 0 < n → All (NamesBelow n) os → All (Goes t (Contains (label ∷ opened os)) most) os → IsBuilt d m label os c
    → IsStraight (target_of d m kept) (routine_of c) × IsTidy (target_of d m kept) (routine_of c)

-- five for each of its transfers, and as much as is said for each of its returns, are at most five times what the operations count
abbrev pub BuiltIsShort : Type 0
BuiltIsShort =
    (d : RawDescription) (m : Fixed) (label : ℕ) (os : List Op) (c : Code) (each per : ℕ) → each ≤ 5 * per → IsBuilt d m label os c
    → 5 * transfer_count (routine_of c) + each * return_count (routine_of c) ≤ 5 * most_with per os + each

-- ---- code of a function

module _ (kept : List ℕ) (d : RawDescription) (m : Fixed) where
  abbrev pub machine : Target
  machine = target_of d m kept

  abbrev pub ops_in : Typed → Function → ℕ → List Op
  ops_in t f label = function_ops kept d.word (pushed machine) t f label

  pub record IsNaive (t : Typed) (f : Function) (label : ℕ) (c : Code) : Type 0 where
    pub built : IsBuilt d m label (ops_in t f label) c
    pub params : c.params ≡ length f.params
    pub frame : c.frame ≡ frame_bytes kept d.word f
    pub first_home : c.first_home ≡ first_home_of kept d.word f
    pub slots : c.slots ≡ slots_of f
    pub homes : c.homes ≡ function_homes kept d.word t f

  -- what is asked of a function: it is sound and within the limits, names no array but by its elements, has no empty list of initialisers, its
  -- operands have homes, and its labels differ
  pub record IsProper (t : Typed) (f : Function) (label : ℕ) : Type 0 where
    pub sound : is_sound_function kept d.word t f ≡ true
    pub scalars : names_scalars t f f.body ≡ true
    pub short : frame_bytes kept d.word f ≤ 32000
    pub light : function_weight kept f ≤ 12000
    pub filled : fills_lists f.body ≡ true
    pub names : All (NamesBelow (length (function_homes kept d.word t f))) (ops_in t f label)
    pub once : AreOnce (label ∷ opened (ops_in t f label))

-- the code of a function is sound and tidy, and has words for the arguments of its calls
abbrev pub FunctionsAreSound : Type 0
FunctionsAreSound =
    (w : ℕ) (d : RawDescription) (m : Fixed) (kept : List ℕ) (t : Typed) (f : Function) (label : ℕ) (c : Code) → IsChecked w d → frame_in d ≡ Some m
    → IsProper kept d m t f label → IsNaive kept d m t f label c
    → IsSound (target_of d m kept) (routine_of c) × IsTidy (target_of d m kept) (routine_of c)
    × (outgoing_words (target_of d m kept) (routine_of c) ≡ most_arguments f)

-- and its room, with that for the entry and the returns, is at most five times what the function weighs
abbrev pub FunctionsHaveRoom : Type 0
FunctionsHaveRoom =
    (w : ℕ) (d : RawDescription) (m : Fixed) (kept : List ℕ) (t : Typed) (f : Function) (label : ℕ) (c : Code) → IsChecked w d → frame_in d ≡ Some m
    → IsProper kept d m t f label → IsNaive kept d m t f label c → padded_room (target_of d m kept) (routine_of c) ≤ 5 * function_weight kept f
