-- The rows that come of a line.
use Rattle.std.specs.Prelude.{◌≡◌, ◌≤◌, ℕ, List, ◌++◌, length, map, take}
use Rattle.md_text.specs.Pieces.{Slot, slots}
use Rattle.md_text.specs.Declarations.{Declaration}
use Rattle.md_text.specs.Forms.{Form, RowLine as SaidRow}
use Rattle.md_text.specs.Expansion.{Expanded as Row, expanded, expansions_of, choices, fillings}
use Rattle.md_forms.specs.Seen.{pieces_of}
use Rattle.md_expand.specs.declared.expanded.Expanded.{Expanded}
use Rattle.md_expand.specs.declared.modes.Filling.{Filling}
use Rattle.md_expand.specs.declared.product.Progress.{Progress}
use Rattle.md_expand.specs.declared.product.RowLine.{RowLine}
use Rattle.md_expand.specs.declared.scope.Scope.{Scope}
use Rattle.md_expand.specs.Expanded.{AllExpanded}
use Rattle.md_expand.specs.Fillings.{all_seen}
use Rattle.md_expand.specs.Scope.{declared_in}

-- the rows with what is chosen for the first holes, and one of the fillings of each of the others
abbrev pub rows_of : ℕ → List Declaration → RowLine → List Filling → List Slot → List Row
rows_of w ds row chosen others =
    map (λ fs. expanded row.line (pieces_of row.text.now) row.transfer.now (all_seen w ds chosen ++ fs)) (choices (map (λ h. fillings w ds h.kind) others))

abbrev pub rows_in : Scope → RowLine → List Filling → List Slot → List Row
rows_in scope row chosen others = rows_of scope.width (declared_in scope) row chosen others

abbrev pub form_of_row : RowLine → Form
form_of_row row = SaidRow (pieces_of row.text.now) row.transfer.now

abbrev pub expansions_in : Scope → ℕ → Form → List Row
expansions_in scope line form = expansions_of scope.width (declared_in scope) line form

-- rows are written behind those that stand there, until there are so many
abbrev pub AddsRows : ℕ → List Row → List Expanded → List Expanded → Type 0
AddsRows limit rows before after = (done : List Row) → AllExpanded done before → AllExpanded (take limit (done ++ rows)) after

-- rows are written, and what is chosen stays
pub record Writes (limit : ℕ) (rows : List Row) (before after : Progress) : Type 0 where
  pub room : length after.rows.items ≤ limit
  pub chosen : after.chosen.items ≡ before.chosen.items
  pub adds : AddsRows limit rows before.rows.items after.rows.items
