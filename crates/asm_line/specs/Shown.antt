-- A token as it is written, and the bytes that a line has yet to take.
use Rattle.std.specs.Prelude.{ℕ, ◌+◌, if◌then◌else◌, List, [], ◌∷◌, decimal, filter_map, slice_get, Option, Some, option_map, IsTrue, All, ◌≡◌, ◌≤◌}
use Rattle.asm_token.specs.Tokens.{Token, Name, Number, Mark}
use Rattle.asm_token.specs.Line.{line_of}
use Rattle.rtl_word.specs.Words.{IsWordSize}
use Rattle.rtl_tree.specs.declared.cells.Lab.{Lab}
use Rattle.rtl_tree.specs.declared.cells.Lab.TheVariants.{Block, Function}
use Rattle.rtl_tree.specs.declared.c_names.Names.{Names}
use Rattle.md_rows.specs.declared.description.Register.{Register}
use Rattle.md_rows.specs.declared.description.RawDescription.{RawDescription}
use Rattle.md_rows.specs.declared.instance.Bound.{Bound}
use Rattle.md_rows.specs.declared.row.Row.{Row}
use Rattle.md_rows.specs.declared.row.Hole.{Hole}
use Rattle.md_rows.specs.declared.row.Piece.{Piece}
use Rattle.md_rows.specs.Fits.{fits}
use Rattle.md_rows.specs.Instances.{piece_token, block_token, symbol_token, AllFit, general_set, HasTokens}
use Rattle.md_rows.specs.Lines.{piece_bytes, is_word, space_bytes, longest_line}
use Rattle.asm_line.specs.declared.shown.Shown.{Shown}
use Rattle.asm_line.specs.declared.shown.Shown.TheVariants as shown
use Rattle.asm_line.specs.declared.writing.Before.{Before}
use Rattle.asm_line.specs.declared.writing.Before.TheVariants.{Start, FirstToken, Word, Mark as MarkBefore}
use Rattle.asm_row.specs.Line.{naming_of, IsNamed}
use Rattle.asm_row.specs.Readable.{IsReadableRow}

abbrev pub token_of : Shown → Token
token_of (shown.Name bytes) = Name bytes.now
token_of (shown.Symbol name) = Name (95 ∷ name.now)
token_of (shown.Block n) = Name (76 ∷ decimal n)
token_of (shown.Number z) = Number z
token_of (shown.Mark b) = Mark b

abbrev pub SomeFits : ℕ → ℕ → Option Hole → Option Bound → Type 0
SomeFits w g (Some h) (Some b) = IsTrue (fits w g h b)
SomeFits w g _ _ = Unit {0}

abbrev pub label_token : Names → Lab → Option Token
label_token n (Block b) = Some (block_token b)
label_token n (Function f) = option_map symbol_token (slice_get n.functions f)

abbrev pub token_in : RawDescription → Names → Row → List Bound → Piece → Option Token
token_in d n row b p = piece_token d.word (naming_of d n) row.holes b p

abbrev pub tokens_in : RawDescription → Names → Row → List Bound → List Piece → List Token
tokens_in d n row b ps = filter_map (token_in d n row b) ps

-- the most bytes of the separator before a piece
abbrev pub gap_bytes : Before → Piece → ℕ
gap_bytes Start p = 0
gap_bytes FirstToken p = 1
gap_bytes Word p = space_bytes (is_word p)
gap_bytes MarkBefore p = 0

abbrev pub before_next : Before → Piece → Before
before_next Start p = FirstToken
before_next _ p = if is_word p then Word else MarkBefore

-- the most bytes that the pieces take behind what stands before
abbrev pub bytes_left : List Register → List Hole → Before → List Piece → ℕ
bytes_left rs holes before [] = 0
bytes_left rs holes before (p ∷ ps) = gap_bytes before p + piece_bytes rs holes p + bytes_left rs holes (before_next before p) ps

-- the row can be written with these values in its holes
pub record IsReady (d : RawDescription) (n : Names) (row : Row) (b : List Bound) : Type 0 where
  pub size : IsWordSize d.word
  pub readable : IsReadableRow d row
  pub short : longest_line d.registers row.holes row.text ≤ 640
  pub fit : AllFit d.word (general_set d.registers) row.holes b
  pub named : All (IsNamed n) b

-- the bytes are the line of a row with these values in its holes
pub record IsRowWritten (d : RawDescription) (n : Names) (row : Row) (b : List Bound) (bytes : List ℕ) : Type 0 where
  pub tokens : List Token
  pub has : HasTokens d.word (naming_of d n) row b tokens
  pub spelled : bytes ≡ line_of tokens
