-- What is seen of a program that was run within a bound on its turns.
use Rattle.std.specs.Prelude.{◌≡◌, ℕ, List, ◌++◌}

-- why a program means nothing from some act on; numbers are those that are printed
pub data Wrong : Type 0 where
  -- an act that C11 leaves undefined, and where the source has it
  Undefined : (act line column : ℕ) → Wrong
  -- the active calls need more stack than there is
  Overstack : Wrong
  -- the instruction of this number can't be carried out
  Trapped : (kind place : ℕ) → Wrong
  -- an unset value is used, or a byte touched that isn't the program's
  Wild : Wrong

-- the bytes that were printed so far, and how the program stands
pub data Behaviour : Type 0 where
  Running : (out : List ℕ) → Behaviour
  Ended : (out : List ℕ) (status : ℕ) → Behaviour
  Failed : (out : List ℕ) (why : Wrong) → Behaviour

abbrev pub output : Behaviour → List ℕ
output (Running out) = out
output (Ended out status) = out
output (Failed out why) = out

-- ys begins with xs
abbrev pub IsPrefix : List ℕ → List ℕ → Type 0
IsPrefix xs ys = (rest : List ℕ) × (ys ≡ xs ++ rest)

-- what a greater bound may show: more output, or the stop that was seen already
abbrev pub IsExtendedBy : Behaviour → Behaviour → Type 0
IsExtendedBy (Running out) later = IsPrefix out (output later)
IsExtendedBy (Ended out status) later = later ≡ Ended out status
IsExtendedBy (Failed out why) later = later ≡ Failed out why
