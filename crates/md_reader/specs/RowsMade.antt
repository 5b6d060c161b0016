-- The row that is made of a row of the program.
use Rattle.std.specs.Prelude.{List, map}
use Rattle.md_rows.specs.declared.row.Row.{Row}
use Rattle.md_text.specs.Expansion.{holes_in}
use Rattle.md_text.specs.Accepted.{pieces_from}
use Rattle.md_expand.specs.declared.moves.Filled.{Filled}
use Rattle.md_expand.specs.declared.expanded.Expanded.{Expanded}
use Rattle.md_expand.specs.Seen.{all_shown}
use Rattle.md_expand.specs.Filled.{assign_of}

-- the row of what is shown, with this transfer
abbrev pub row_with : Expanded → List Filled → Row
row_with e transfer = record {
  line = e.line;
  text = pieces_from 0 (all_shown e.text.items);
  holes = holes_in (all_shown e.text.items);
  effects = map assign_of transfer;
  normal = map assign_of transfer;
}
