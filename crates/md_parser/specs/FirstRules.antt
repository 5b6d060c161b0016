-- The first three rules of a text.
use Rattle.std.specs.Prelude.{◌≡◌, ℕ, ◌<◌, List, [], ◌∷◌, codes}
use Rattle.md_text.specs.Lines.{Line}
use Rattle.md_text.specs.Accepted.{Rule, number_of, Breaks}

-- the first line that is kept says the version
abbrev pub BeginsWithVersion : List Line → Type 0
BeginsWithVersion [] = ⊥
BeginsWithVersion (line ∷ lines) = line.bytes ≡ codes "vpo 1"

-- the text breaks none of rules 1 to 3
abbrev pub KeepsFirstRules : List ℕ → Type 0
KeepsFirstRules text = (rule : Rule) (line : ℕ) → number_of rule < 4 → Breaks rule text line → ⊥
