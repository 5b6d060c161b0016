-- What is live in the naive code of a function.
use Rattle.std.specs.Prelude.{◌≡◌, ℕ, zero, suc, ◌+◌, ◌<◌, true, List, [], ◌∷◌, ◌++◌, slice_get, Option, Some, None, All}
use Rattle.rtl_tree.specs.declared.cells.Cell.{Cell}
use Rattle.rtl_tree.specs.declared.cells.Cell.TheVariants.{Temp}
use Rattle.c_tree.specs.declared.typed.Function.{Function}
use Rattle.c_tree.specs.declared.typed.Typed.{Typed}
use Rattle.c_sound.specs.Sound.{body_sound, known_in, is_meant}
use Rattle.naive_code.specs.Operations.{Stop, Branches, Op, Make, Meet, Scale, Extend, Close}
use Rattle.naive_code.specs.Storage.{scalar_count}
use Rattle.naive_code.specs.Functions.{body_steps, function_ops}
use Rattle.naive_run.specs.Sound.{is_sound_function, is_sound}
use Rattle.naive_live.specs.Live.{Lives}

-- the item that has a number, where the first of a list has the number n
abbrev pub numbered : {A : Type 0} → ℕ → List A → ℕ → Option A
numbered zero xs i = slice_get xs i
numbered (suc n) xs zero = None
numbered (suc n) xs (suc i) = numbered n xs i

-- the depths of a function's temporaries behind those of scalars; one more than those of its body is for what `main` returns
abbrev pub depth_in : (kept : List ℕ) → ℕ → Typed → Function → ℕ → Option ℕ
depth_in kept w t f = numbered (scalar_count f) ((body_steps kept w t f).depths ++ 0 ∷ [])

-- a function as typing leaves it
pub record IsSoundFunction (kept : List ℕ) (w : ℕ) (t : Typed) (f : Function) : Type 0 where
  pub meant : body_sound (known_in w t f) f.body ≡ true
  pub sound : is_sound_function kept w t f ≡ true

-- each function of a program that means something throughout and is sound is such a one
abbrev pub FunctionsAreSound : Type 0
FunctionsAreSound =
    (kept : List ℕ) (w : ℕ) (t : Typed) (g : ℕ) (f : Function) → is_sound kept w t ≡ true → is_meant w t ≡ true → slice_get t.functions g ≡ Some f
    → IsSoundFunction kept w t f

-- nothing but scalars is live where the function begins and where it ends, and in between no two temporaries of one depth are live at once
pub record FunctionLives (kept : List ℕ) (w pushed : ℕ) (t : Typed) (f : Function) (label : ℕ) : Type 0 where
  pub at_label : ℕ → List ℕ
  pub first : at_label label ≡ []
  pub lives : Lives (depth_in kept w t f) (scalar_count f) at_label [] (function_ops kept w pushed t f label) []

abbrev pub FunctionsLive : Type 0
FunctionsLive = (kept : List ℕ) (w pushed : ℕ) (t : Typed) (f : Function) (label : ℕ) → IsSoundFunction kept w t f → FunctionLives kept w pushed t f label

-- ---- names

abbrev pub IsTemporaryBelow : ℕ → Cell → Type 0
IsTemporaryBelow n (Temp i) = i < n
IsTemporaryBelow n _ = ⊥

abbrev pub StopBelow : ℕ → Stop → Type 0
StopBelow n (Branches r a b l) = (a < n) × (b < n)
StopBelow n _ = Unit {0}

-- the operands of an operation are temporaries below a number
abbrev pub NamesBelow : ℕ → Op → Type 0
NamesBelow n (Make p o) = IsTemporaryBelow n o.a × IsTemporaryBelow n o.b
NamesBelow n (Meet a b) = (a < n) × (b < n)
NamesBelow n (Scale a spare) = (a < n) × (spare < n)
NamesBelow n (Extend a spare) = (a < n) × (spare < n)
NamesBelow n (Close stop l) = StopBelow n stop

-- each operation of a function names temporaries that have a home
abbrev pub NamesAreTemporaries : Type 0
NamesAreTemporaries =
    (kept : List ℕ) (w pushed : ℕ) (t : Typed) (f : Function) (label : ℕ) → IsSoundFunction kept w t f
    → All (NamesBelow (scalar_count f + (body_steps kept w t f).temps + 1)) (function_ops kept w pushed t f label)
