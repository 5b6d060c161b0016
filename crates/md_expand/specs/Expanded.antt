-- Rows of the program and those of texts.
use Rattle.std.specs.Prelude.{◌≡◌, ◌≤◌, ℕ, Bool, false, List, [], ◌∷◌, length, Option, Some, None, option_map}
use Rattle.std.specs.Global.{Vec}
use Rattle.std.specs.List.{list_any}
use Rattle.md_text.specs.Rules.{is_deep}
use Rattle.md_expand.specs.declared.moves.Filled.{Filled}
use Rattle.md_text.specs.Expansion.{Expanded as Row, holes_in}
use Rattle.md_expand.specs.declared.expanded.Expanded.{Expanded}
use Rattle.md_expand.specs.Seen.{all_shown}
use Rattle.md_expand.specs.Filled.{BothAllFilled}

-- the row of the program stands for the row of the text; the numbers of its holes are exact where they are at most 256
pub record IsExpanded (row : Row) (e : Expanded) : Type 0 where
  pub line : e.line ≡ row.line
  pub text : all_shown e.text.items ≡ row.text
  pub transfer : BothAllFilled (length (holes_in row.text) ≤ 256) row.transfer (option_map (λ v. v.items) e.transfer)

-- row for row, the rows of the program stand for those of the text
abbrev pub AllExpanded : List Row → List Expanded → Type 0
AllExpanded [] [] = Unit {0}
AllExpanded (row ∷ rows) (e ∷ es) = IsExpanded row e × AllExpanded rows es
AllExpanded _ _ = ⊥

-- the line of a row that may be there
abbrev pub line_of : Option Expanded → Option ℕ
line_of None = None
line_of (Some e) = Some e.line

-- whether a transfer has a tree that is too deep
abbrev pub deep_within : Option (Vec Filled) → Bool
deep_within None = false
deep_within (Some v) = list_any (λ f. is_deep f.assign) v.items
