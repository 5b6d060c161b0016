-- What the program's types stand for.
use Rattle.std.specs.Prelude.{List, map}
use Rattle.asm_token.specs.Tokens.{Name as NameToken, Number as NumberToken, Mark as MarkToken}
use Rattle.md_text.specs.Pieces as text
use Rattle.md_text.specs.Forms as says
use Rattle.md_text.specs.Declarations.{Declaration as Said, Declared as AllSaid}
use Rattle.md_forms.specs.declared.pieces.Range.{Range}
use Rattle.md_forms.specs.declared.pieces.Range.TheVariants.{OfWord, Between}
use Rattle.md_forms.specs.declared.pieces.Kind.{Kind}
use Rattle.md_forms.specs.declared.pieces.Kind.TheVariants.{Named, Numbers, Symbols, Labels}
use Rattle.md_forms.specs.declared.pieces.Slot.{Slot}
use Rattle.md_forms.specs.declared.pieces.Piece.{Piece}
use Rattle.md_forms.specs.declared.pieces.Piece.TheVariants.{Name, Number, Mark, Hole}
use Rattle.md_forms.specs.declared.declarations.Form.{Form}
use Rattle.md_forms.specs.declared.declarations.Form.TheVariants.{Version, MachineName, WordBits, MemorySize, DataBegin, StackSize, RegisterLine, FlagLine, ClassLine, ModeLine, RowLine}
use Rattle.md_forms.specs.declared.declarations.Declaration.{Declaration}
use Rattle.md_forms.specs.declared.declarations.Declared.{Declared}

abbrev pub range_of : Range → text.Range
range_of OfWord = text.OfWord
range_of (Between low high) = text.Between low high

abbrev pub kind_of : Kind → text.Kind
kind_of (Named name) = text.Named name
kind_of (Numbers inverted range) = text.Numbers inverted (range_of range)
kind_of Symbols = text.Symbols
kind_of Labels = text.Labels

abbrev pub slot_of : Slot → text.Slot
slot_of h = record { name = h.name; kind = kind_of h.kind }

abbrev pub piece_of : Piece → text.Piece
piece_of (Name bytes) = text.Literal (NameToken bytes)
piece_of (Number z) = text.Literal (NumberToken z)
piece_of (Mark b) = text.Literal (MarkToken b)
piece_of (Hole h) = text.Hole (slot_of h)

abbrev pub pieces_of : List Piece → List text.Piece
pieces_of text = map piece_of text

abbrev pub form_of : Form → says.Form
form_of Version = says.Version
form_of (MachineName name) = says.MachineName name
form_of (WordBits z) = says.WordBits z
form_of (MemorySize z) = says.MemorySize z
form_of (DataBegin z) = says.DataBegin z
form_of (StackSize z) = says.StackSize z
form_of (RegisterLine k name role) = says.RegisterLine k name role
form_of (FlagLine k name) = says.FlagLine k name
form_of (ClassLine name registers) = says.ClassLine name registers
form_of (ModeLine name text tree) = says.ModeLine name (pieces_of text) tree
form_of (RowLine text transfer) = says.RowLine (pieces_of text) transfer

abbrev pub declaration_of : Declaration → Said
declaration_of d = record { line = d.line; form = form_of d.form }

abbrev pub declarations_of : List Declaration → List Said
declarations_of ds = map declaration_of ds

abbrev pub declared_of : Declared → AllSaid
declared_of d = record { width = d.width; all = declarations_of d.all; last = d.last }
