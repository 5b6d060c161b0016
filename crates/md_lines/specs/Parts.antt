-- The parts of bytes round a byte.
use Rattle.std.specs.Prelude.{◌≡◌, ℕ, IsTrue, List, ◌∷◌, ◌++◌, codes}
use Rattle.md_text.specs.Lines.{lacks}

-- the first byte b stands between these parts
pub record IsSplitAtByte (b : ℕ) (bytes front back : List ℕ) : Type 0 where
  pub text : bytes ≡ front ++ b ∷ back
  pub first : IsTrue (lacks b front)

-- ` | ` stands between these parts, the first of which has no bar
pub record IsSplitAtBar (bytes front back : List ℕ) : Type 0 where
  pub text : bytes ≡ front ++ (codes " | " ++ back)
  pub first : IsTrue (lacks 124 front)
