-- The numbers of the lines that declare something.
use Rattle.std.specs.Prelude.{ℕ, ◌<◌, ◌≤◌, List, [], ◌∷◌}
use Rattle.rtl_word.specs.Words.{IsWordSize}
use Rattle.md_text.specs.Declarations.{Declaration, Declared}

-- the numbers of the lines go up from above n to last at most
abbrev pub GoUp : ℕ → List Declaration → ℕ → Type 0
GoUp n [] last = n ≤ last
GoUp n (d ∷ ds) last = (n < d.line) × GoUp d.line ds last

-- words have a size, and the lines are counted from 1
pub record IsNumbered (d : Declared) : Type 0 where
  pub width : IsWordSize d.width
  pub lines : GoUp 0 d.all d.last
