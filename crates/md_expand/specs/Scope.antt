-- What stands in texts that are read under a scope.
use Rattle.std.specs.Prelude.{ℕ, List, map}
use Rattle.rtl_spelling.specs.Holes.{Open}
use Rattle.md_text.specs.Pieces.{slots}
use Rattle.md_text.specs.Declarations.{Declaration}
use Rattle.md_text.specs.Expansion as text
use Rattle.md_forms.specs.Seen.{pieces_of, declarations_of}
use Rattle.md_forms.specs.declared.pieces.Piece.{Piece}
use Rattle.md_expand.specs.declared.modes.Filling.{Filling}
use Rattle.md_expand.specs.declared.scope.Scope.{Scope}
use Rattle.md_expand.specs.Fillings.{filling_seen, all_seen, hole_total}

abbrev pub declared_in : Scope → List Declaration
declared_in scope = declarations_of scope.all.now

abbrev pub filling_in : Scope → Filling → text.Filling
filling_in scope filling = filling_seen scope.width (declared_in scope) filling

abbrev pub fillings_in : Scope → List Filling → List text.Filling
fillings_in scope chosen = all_seen scope.width (declared_in scope) chosen

-- how many holes fillings have together
abbrev pub hole_total_in : Scope → List Filling → ℕ
hole_total_in scope chosen = hole_total scope.width (declared_in scope) chosen

-- the leaves of the holes of a text without modes, where n holes stand before it
abbrev pub slot_holes : Scope → ℕ → List Piece → List Open
slot_holes scope n pieces = text.holes_from scope.width (declared_in scope) n (slots (pieces_of pieces))

-- the trees that stand for the holes of a row's text, where n holes stand before it
abbrev pub row_holes : Scope → ℕ → List Piece → List Filling → List Open
row_holes scope n pieces chosen = text.meant n (slots (pieces_of pieces)) (fillings_in scope chosen)
