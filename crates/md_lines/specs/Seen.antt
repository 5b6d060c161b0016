-- The pieces of the program as those of a text.
use Rattle.asm_token.specs.Seen.{token_of}
use Rattle.md_text.specs.Pieces.{Range, OfWord, Between, Kind, Named, Numbers, Symbols, Labels, Slot, Piece, Literal, Hole}
use Rattle.md_lines.specs.declared.kinds.Range.{Range as ReadRange}
use Rattle.md_lines.specs.declared.kinds.Range.TheVariants as range
use Rattle.md_lines.specs.declared.kinds.Kind.{Kind as ReadKind}
use Rattle.md_lines.specs.declared.kinds.Kind.TheVariants as kind
use Rattle.md_lines.specs.declared.kinds.Slot.{Slot as ReadSlot}
use Rattle.md_lines.specs.declared.pieces.Piece.{Piece as ReadPiece}
use Rattle.md_lines.specs.declared.pieces.Piece.TheVariants as piece

abbrev pub range_of : ReadRange → Range
range_of range.OfWord = OfWord
range_of (range.Between low high) = Between low high

abbrev pub kind_of : ReadKind → Kind
kind_of (kind.Named name) = Named name.now
kind_of (kind.Numbers inverted range) = Numbers inverted (range_of range)
kind_of kind.Symbols = Symbols
kind_of kind.Labels = Labels

abbrev pub slot_of : ReadSlot → Slot
slot_of h = record { name = h.name.now; kind = kind_of h.kind }

abbrev pub piece_of : ReadPiece → Piece
piece_of (piece.Literal t) = Literal (token_of t)
piece_of (piece.Hole h) = Hole (slot_of h)
