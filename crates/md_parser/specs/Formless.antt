-- The first line that has none of the forms.
use Rattle.std.specs.Prelude.{◌≡◌, ℕ, ◌≤◌, List, [], ◌∷◌, ◌++◌, length}
use Rattle.md_text.specs.Lines.{Line}
use Rattle.md_text.specs.Forms.{Form, HasForm}
use Rattle.md_text.specs.Declarations.{Declaration, HaveForms}

-- no line has more than 255 bytes
abbrev pub AreShort : List Line → Type 0
AreShort [] = Unit {0}
AreShort (line ∷ lines) = (length line.bytes ≤ 255) × AreShort lines

-- the line of this number has none of the forms, and those before have forms
pub record IsFirstFormless (w : ℕ) (lines : List Line) (n : ℕ) : Type 0 where
  pub before : List Line
  pub it : Line
  pub after : List Line
  pub split : lines ≡ before ++ it ∷ after
  pub number : n ≡ it.number
  pub said : List Declaration
  pub have : HaveForms w before said
  pub never : (form : Form) → HasForm w it.bytes form → ⊥
