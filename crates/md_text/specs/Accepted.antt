-- The rules of a description's text, which of them is told, and what a text says that breaks none.
use Rattle.std.specs.Prelude.{◌≡◌, ℕ, suc, ◌<◌, Bool, false, IsTrue, List, [], ◌∷◌, ◌++◌, length, take, map, Some, slice_get, unwrap_or, Contains}
use Rattle.asm_token.specs.Tokens.{Token, Name as NameToken, Number as NumberToken, Mark as MarkToken}
use Rattle.md_rows.specs.declared.description.RawDescription.{RawDescription}
use Rattle.md_rows.specs.declared.row.Row.{Row}
use Rattle.md_rows.specs.declared.row.Piece.{Piece}
use Rattle.md_rows.specs.declared.row.Piece.TheVariants.{Name, Num, Byte, Hole as HolePiece}
use Rattle.md_text.specs.Lines.{Line, IsText, HasBadLine, BeginsOtherwise, kept, width_of}
use Rattle.md_text.specs.Forms.{Form, HasForm}
use Rattle.md_text.specs.Declarations.{Declaration, Declared, Declares, registers_in, flags_in, machine_name_in, memory_in, data_in, stack_in}
use Rattle.md_text.specs.Expansion.{Shown, Fixed, Vacant, Expanded, holes_in, expansions}
use Rattle.md_text.specs.Heading.{breaks_heading, is_out_of_range}
use Rattle.md_text.specs.Rules.{is_declared_twice, is_undeclared, has_reserved_name, has_roles, HasGoodTransfer, has_misused_hole, has_mode_in_mode, is_too_large}

pub data Rule : Type 0 where
  BadByte : Rule
  OtherVersion : Rule
  NoForm : Rule
  BadHeading : Rule
  OutOfRange : Rule
  DeclaredTwice : Rule
  NotDeclared : Rule
  ReservedName : Rule
  WrongRoles : Rule
  BadTransfer : Rule
  MisusedHole : Rule
  ModeInMode : Rule
  TooLarge : Rule
  TooMany : Rule

abbrev pub number_of : Rule → ℕ
number_of BadByte = 1
number_of OtherVersion = 2
number_of NoForm = 3
number_of BadHeading = 4
number_of OutOfRange = 5
number_of DeclaredTwice = 6
number_of NotDeclared = 7
number_of ReservedName = 8
number_of WrongRoles = 9
number_of BadTransfer = 10
number_of MisusedHole = 11
number_of ModeInMode = 12
number_of TooLarge = 13
number_of TooMany = 14

-- the first line that says something doesn't say the version
pub record HasOtherVersion (text : List ℕ) (line : ℕ) : Type 0 where
  pub lines : List (List ℕ)
  pub is_text : IsText text lines
  pub begins : BeginsOtherwise (kept lines) line

-- a line has none of the forms
pub record HasNoForm (text : List ℕ) (line : ℕ) : Type 0 where
  pub lines : List (List ℕ)
  pub is_text : IsText text lines
  pub before : List Line
  pub after : List Line
  pub it : Line
  pub split : kept lines ≡ before ++ it ∷ after
  pub number : it.number ≡ line
  pub never : (form : Form) → HasForm (width_of (kept lines)) it.bytes form → ⊥

-- the text declares what breaks a rule at a line
pub record DeclaresBad (broken : Declared → ℕ → Type 0) (text : List ℕ) (line : ℕ) : Type 0 where
  pub declared : Declared
  pub declares : Declares text declared
  pub breaks : broken declared line

-- a declaration is broken by a test of it and those before
pub record HasBroken (test : List Declaration → Form → Bool) (ds : List Declaration) (line : ℕ) : Type 0 where
  pub before : List Declaration
  pub after : List Declaration
  pub form : Form
  pub split : ds ≡ before ++ record { line = line; form = form } ∷ after
  pub breaks : IsTrue (test before form)

-- a line of the heading stands elsewhere, or the text ends within the heading
pub data HasBadHeading (d : Declared) : ℕ → Type 0 where
  elsewhere : (line : ℕ) → HasBroken breaks_heading d.all line → HasBadHeading d line
  unfinished : length d.all < 6 → HasBadHeading d d.last

-- the registers haven't the roles that they should have, which is told at the last line
pub record HasWrongRoles (d : Declared) (line : ℕ) : Type 0 where
  pub last : line ≡ d.last
  pub wrong : has_roles (registers_in d.all) ≡ false

-- at most so many expanded rows count
abbrev pub most_rows : ℕ
most_rows = 4096

abbrev pub counted_rows : Declared → List Expanded
counted_rows d = take most_rows (expansions d.width d.all)

-- one of the rows that count is broken
pub record HasBrokenRow (broken : Expanded → Type 0) (d : Declared) (line : ℕ) : Type 0 where
  pub row : Expanded
  pub counted : Contains (counted_rows d) row
  pub at : row.line ≡ line
  pub breaks : broken row

-- the line passes the number of rows
pub record HasTooMany (d : Declared) (line : ℕ) : Type 0 where
  pub row : Expanded
  pub next : slice_get (expansions d.width d.all) most_rows ≡ Some row
  pub at : row.line ≡ line

-- the text breaks this rule at this line
abbrev pub Breaks : Rule → List ℕ → ℕ → Type 0
Breaks BadByte text line = HasBadLine text line
Breaks OtherVersion text line = HasOtherVersion text line
Breaks NoForm text line = HasNoForm text line
Breaks BadHeading text line = DeclaresBad HasBadHeading text line
Breaks OutOfRange text line = DeclaresBad (λ d. HasBroken (is_out_of_range d.width) d.all) text line
Breaks DeclaredTwice text line = DeclaresBad (λ d. HasBroken is_declared_twice d.all) text line
Breaks NotDeclared text line = DeclaresBad (λ d. HasBroken is_undeclared d.all) text line
Breaks ReservedName text line = DeclaresBad (λ d. HasBroken has_reserved_name d.all) text line
Breaks WrongRoles text line = DeclaresBad HasWrongRoles text line
Breaks BadTransfer text line = DeclaresBad (HasBrokenRow (λ row. HasGoodTransfer row → ⊥)) text line
Breaks MisusedHole text line = DeclaresBad (λ d. HasBroken has_misused_hole d.all) text line
Breaks ModeInMode text line = DeclaresBad (λ d. HasBroken has_mode_in_mode d.all) text line
Breaks TooLarge text line = DeclaresBad (HasBrokenRow (λ row. IsTrue (is_too_large row))) text line
Breaks TooMany text line = DeclaresBad HasTooMany text line

-- the least rule that the text breaks, at the least line
pub record Told (text : List ℕ) (rule : Rule) (line : ℕ) : Type 0 where
  pub broken : Breaks rule text line
  pub least_rule : (r : Rule) (l : ℕ) → number_of r < number_of rule → Breaks r text l → ⊥
  pub least_line : (l : ℕ) → l < line → Breaks rule text l → ⊥

-- the text breaks no rule
abbrev pub IsAccepted : List ℕ → Type 0
IsAccepted text = (rule : Rule) (line : ℕ) → Breaks rule text line → ⊥

abbrev pub piece_of : Token → Piece
piece_of (NameToken bytes) = Name bytes
piece_of (NumberToken z) = Num z
piece_of (MarkToken b) = Byte b

-- the pieces of a row's text, where n holes stand before it
abbrev pub pieces_from : ℕ → List Shown → List Piece
pieces_from n [] = []
pieces_from n (Fixed t ∷ text) = piece_of t ∷ pieces_from n text
pieces_from n (Vacant h ∷ text) = HolePiece n ∷ pieces_from (suc n) text

-- the row that the text gives; its normal form is left as a copy of the transfer
abbrev pub row_of : Expanded → Row
row_of row = record {
  line = row.line;
  text = pieces_from 0 row.text;
  holes = holes_in row.text;
  effects = unwrap_or row.transfer [];
  normal = unwrap_or row.transfer [];
}

abbrev pub description_of : Declared → RawDescription
description_of d = record {
  name = machine_name_in d.all;
  word = d.width;
  memory = memory_in d.all;
  base = data_in d.all;
  stack = stack_in d.all;
  registers = registers_in d.all;
  flags = flags_in d.all;
  rows = map row_of (expansions d.width d.all);
  last = d.last;
}

-- the text is accepted, and this is the description that it says
pub record Says (text : List ℕ) (description : RawDescription) : Type 0 where
  pub accepted : IsAccepted text
  pub declared : Declared
  pub declares : Declares text declared
  pub same : description ≡ description_of declared
