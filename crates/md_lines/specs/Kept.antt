-- The lines of a text as they are read.
use Rattle.std.specs.Prelude.{◌≡◌, ℕ, ◌<◌, IsTrue, List, length, map}
use Rattle.std.specs.List.{list_all}
use Rattle.md_text.specs.Lines.{Line, IsText, HasBadLine, is_good_line, kept}
use Rattle.md_lines.specs.declared.lines.Line.{Line as ReadLine}

abbrev pub line_of : ReadLine → Line
line_of line = record { number = line.number; bytes = line.bytes.now }

-- the text is good lines, of which these are kept, and it has so many lines
pub record KeepsLines (text : List ℕ) (lines : List Line) (last : ℕ) : Type 0 where
  pub all : List (List ℕ)
  pub is_text : IsText text all
  pub good : IsTrue (list_all is_good_line all)
  pub are_kept : lines ≡ kept all
  pub count : last ≡ length all

-- the first bad line of the text
pub record IsFirstBadLine (text : List ℕ) (n : ℕ) : Type 0 where
  pub bad : HasBadLine text n
  pub first : (m : ℕ) → m < n → HasBadLine text m → ⊥
