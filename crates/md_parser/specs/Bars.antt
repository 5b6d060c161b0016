-- The parts of the lines of rows and modes.
use Rattle.std.specs.Prelude.{◌≡◌, ℕ, IsTrue, List, ◌++◌, codes}
use Rattle.asm_token.specs.Tokens.{IsName}
use Rattle.md_text.specs.Lines.{lacks}

-- a row's line shows this, and means that
pub record HasRowParts (line shown meant : List ℕ) : Type 0 where
  pub text : line ≡ codes "row " ++ (shown ++ (codes " | " ++ meant))
  pub first : IsTrue (lacks 124 shown)

-- a mode's line names it, shows this, and means that
pub record HasModeParts (line name shown meant : List ℕ) : Type 0 where
  pub text : line ≡ codes "mode " ++ (name ++ (codes " | " ++ (shown ++ (codes " | " ++ meant))))
  pub named : IsName name
  pub first : IsTrue (lacks 124 shown)
