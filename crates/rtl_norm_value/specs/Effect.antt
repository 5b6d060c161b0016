-- When two transfers do the same, and what the normal form of a transfer keeps.
use Rattle.std.specs.Prelude.{◌≡◌, ℕ, ◌<◌, ◌⊎◌, Result, Ok, Err, List, map}
use Rattle.std.specs.List.{All}
use Rattle.rtl_word.specs.Words.{IsWordSize}
use Rattle.rtl_tree.specs.declared.cells.Cell.{Cell}
use Rattle.rtl_tree.specs.declared.cells.Cell.TheVariants.{Pc}
use Rattle.rtl_tree.specs.declared.cells.Lab.{Lab}
use Rattle.rtl_tree.specs.Trees.{Tree, Load, Unary, Binary, AnyNumber, AnyName}
use Rattle.rtl_tree.specs.Moves.{Goal, ToCell, ToMemory, Move}
use Rattle.rtl_tree.specs.WellFormed.{IsWellFormed}
use Rattle.rtl_effect.specs.Views.{Stop, View}
use Rattle.rtl_effect.specs.Effects.{place_at, Done, effect}
use Rattle.rtl_norm.specs.Normal.{norm}
use Rattle.rtl_norm.specs.Transfers.{norm_moves, IsMoveFitting}
use Rattle.rtl_norm_value.specs.Kept.{IsWordView}

-- two views that are equal cell by cell and byte by byte
pub record IsSameView (v z : View) : Type 0 where
  pub cells : (c : Cell) → v.cells c ≡ z.cells c
  pub flags : (n : ℕ) → v.flags n ≡ z.flags n
  pub size : v.size ≡ z.size
  pub bytes : (a : ℕ) → v.bytes a ≡ z.bytes a
  pub reach : (a : ℕ) → v.reach a ≡ z.reach a
  pub symbols : (n : ℕ) → v.symbols n ≡ z.symbols n
  pub labels : (l : Lab) → v.labels l ≡ z.labels l
  pub targets : (l : Lab) → v.targets l ≡ z.targets l
  pub places : (n : ℕ) → v.places n ≡ z.places n
  pub input : v.input ≡ z.input

pub record IsSameDone (x y : Done) : Type 0 where
  pub view : IsSameView x.view y.view
  pub place : x.place ≡ y.place
  pub output : x.output ≡ y.output
  pub halt : x.halt ≡ y.halt

-- both stop alike, or both do the same
pub data IsSameEffect : Result Done Stop → Result Done Stop → Type 0 where
  both_stop : (s : Stop) → IsSameEffect (Err s) (Err s)
  both_do : (x y : Done) → IsSameDone x y → IsSameEffect (Ok x) (Ok y)

-- a label, read as a word, is the place to which a jump to it goes
abbrev pub AreLabelsPlaces : View → Type 0
AreLabelsPlaces v = (l : Lab) → place_at v (v.labels l) ≡ v.targets l

-- a value of the program counter is its own normal form
abbrev pub IsNormalJump : ℕ → Goal → Tree → Type 0
IsNormalJump w (ToCell Pc) t = norm w t ≡ t
IsNormalJump w _ t = Unit {0}

abbrev pub HasNormalJump : ℕ → List Move → Type 0
HasNormalJump w ms = All (λ m. IsNormalJump w m.to m.value) ms

-- a value of the program counter in its normal form, and any other value as it is
abbrev pub jump_in_form : ℕ → Goal → Tree → Tree
jump_in_form w (ToCell Pc) t = norm w t
jump_in_form w _ t = t

-- the transfer that code with temporaries makes for this one: the value of the program counter is taken in its normal form
abbrev pub with_normal_jump : ℕ → List Move → List Move
with_normal_jump w ms = map (λ m. record { to = m.to; value = jump_in_form w m.to m.value }) ms

-- no hole for a number or a name stands in a tree
abbrev pub IsFilled : Tree → Type 0
IsFilled (Load d a) = IsFilled a
IsFilled (Unary o a) = IsFilled a
IsFilled (Binary o a b) = IsFilled a × IsFilled b
IsFilled (AnyNumber n) = ⊥
IsFilled (AnyName n) = ⊥
IsFilled _ = Unit {0}

abbrev pub IsGoalFilled : Goal → Type 0
IsGoalFilled (ToCell c) = Unit {0}
IsGoalFilled (ToMemory d a) = IsFilled a

abbrev pub IsMoveFilled : Move → Type 0
IsMoveFilled m = IsGoalFilled m.to × IsFilled m.value

-- the normal form of a well-formed transfer does what the transfer does, where labels are read as their places or the jump is its own
-- normal form
abbrev pub EffectIsKept : Type 0
EffectIsKept =
    (w : ℕ) (ms : List Move) (v : View) → IsWordSize w → IsWordView w v → AreLabelsPlaces v ⊎ HasNormalJump w ms → IsWellFormed ms
    → All (IsMoveFitting w) ms → All IsMoveFilled ms → IsSameEffect (effect w (norm_moves w ms) v) (effect w ms v)

-- so code with temporaries does the same by a transfer and by its normal form, whatever is unset
abbrev pub NormalJumpIsKept : Type 0
NormalJumpIsKept =
    (w : ℕ) (ms : List Move) (v : View) → IsWordSize w → IsWordView w v → IsWellFormed ms
    → All (IsMoveFitting w) ms → All IsMoveFilled ms → IsSameEffect (effect w (norm_moves w ms) v) (effect w (with_normal_jump w ms) v)

-- and a machine, on which labels are places, does by the transfer what such code does
abbrev pub JumpIsPlace : Type 0
JumpIsPlace =
    (w : ℕ) (ms : List Move) (v : View) → IsWordSize w → IsWordView w v → AreLabelsPlaces v → IsWellFormed ms
    → All (IsMoveFitting w) ms → All IsMoveFilled ms → IsSameEffect (effect w (with_normal_jump w ms) v) (effect w ms v)

-- the jump of a normal form is in its normal form
abbrev pub NormalFormHasNormalJump : Type 0
NormalFormHasNormalJump = (w : ℕ) (ms : List Move) → with_normal_jump w (norm_moves w ms) ≡ norm_moves w ms

-- a transfer of words leaves a view of words, where the input is bytes
abbrev pub WordsAreKept : Type 0
WordsAreKept =
    (w : ℕ) (ms : List Move) (v : View) (d : Done) → IsWordSize w → IsWordView w v → All (λ byte. byte < 256) v.input → All (IsMoveFitting w) ms
    → effect w ms v ≡ Ok d → IsWordView w d.view × All (λ byte. byte < 256) d.view.input
