-- The tokens of a text, and the first fault of a text that has none.
use Rattle.std.specs.Prelude.{ℕ, ◌≡◌, ◌+◌, List, [], ◌∷◌, ◌++◌, take, Bool, true, false, ◌==◌, if◌then◌else◌, Option, Some, None, Result, Ok, Err}
use Rattle.c_tree.specs.declared.token.At.{At}
use Rattle.c_tree.specs.declared.token.Token.{Token}
use Rattle.c_tree.specs.declared.token.TokenKind.{TokenKind}
use Rattle.c_tree.specs.declared.token.TokenKind.TheVariants as kind
use Rattle.c_lexer.specs.declared.rule.Rule.{Rule}
use Rattle.c_lexer.specs.declared.rule.Rule.TheVariants.{Unknown, OpenComment}
use Rattle.c_lexer.specs.declared.line.Line.{Line}
use Rattle.c_lexer.specs.declared.line.Line.TheVariants.{Fresh, Used, Included}
use Rattle.c_lexer.specs.Bytes.{first}
use Rattle.c_lexer.specs.Pieces.{Found, piece_at}
use Rattle.c_lexer.specs.Places.{place_of}

-- a piece of a text: its bytes, and the token that they are, or none for a blank or a comment
pub record Piece : Type 0 where
  pub bytes : List ℕ
  pub token : Option TokenKind

-- what stands before a place: the bytes, and what of the place's line
pub record Cursor : Type 0 where
  pub before : List ℕ
  pub line : Line

abbrev pub start : Cursor
start = record { before = []; line = Fresh }

-- what of its line stands behind a piece with this first byte
abbrev pub line_behind : Line → At → ℕ → Option TokenKind → Line
line_behind line here byte (Some kind.Include) = Included here
line_behind line here byte (Some k) = Used
line_behind line here byte None = if byte == 10 then Fresh else line

abbrev pub moved : Cursor → Piece → Cursor
moved c p = record { before = c.before ++ p.bytes; line = line_behind c.line (place_of c.before) (first p.bytes) p.token }

abbrev pub is_fresh : Line → Bool
is_fresh Fresh = true
is_fresh Used = false
is_fresh (Included hash) = false

-- Behind an include line no token stands on its line, else its # is refused.
abbrev pub taken : Line → List ℕ → Option TokenKind → ℕ → Result Piece (At × Rule)
taken (Included hash) text (Some k) n = Err (hash, Unknown)
taken line text token n = Ok (record { bytes = take n text; token = token })

abbrev pub refused : Line → At → Rule → At × Rule
refused (Included hash) here OpenComment = (here, OpenComment)
refused (Included hash) here rule = (hash, Unknown)
refused line here rule = (here, rule)

abbrev pub judged : Line → At → List ℕ → Found → Result Piece (At × Rule)
judged line here text (Ok x) = taken line text x.0 x.1
judged line here text (Err rule) = Err (refused line here rule)

-- the next piece of a text that stands behind a line so far, at a place, or which rule is broken, and where
unfoldable pub next_piece : Line → At → List ℕ → Result Piece (At × Rule)
next_piece line here text = judged line here text (piece_at (is_fresh line) text)

abbrev pub piece_behind : Cursor → List ℕ → Result Piece (At × Rule)
piece_behind c text = next_piece c.line (place_of c.before) text

abbrev pub text_of : List Piece → List ℕ
text_of [] = []
text_of (p ∷ ps) = p.bytes ++ text_of ps

-- each piece is the next one where it stands
abbrev pub ArePieces : Cursor → List Piece → List ℕ → Type 0
ArePieces c [] rest = Unit {0}
ArePieces c (p ∷ ps) rest = (piece_behind c (p.bytes ++ (text_of ps ++ rest)) ≡ Ok p) × ArePieces (moved c p) ps rest

abbrev pub cursor_behind : Cursor → List Piece → Cursor
cursor_behind c [] = c
cursor_behind c (p ∷ ps) = cursor_behind (moved c p) ps

abbrev pub token_at : At → Option TokenKind → List Token
token_at at None = []
token_at at (Some k) = record { kind = k; at = at } ∷ []

-- the tokens of pieces, with their places
abbrev pub tokens_of : Cursor → List Piece → List Token
tokens_of c [] = []
tokens_of c (p ∷ ps) = token_at (place_of c.before) p.token ++ tokens_of (moved c p) ps

-- The text is spelled by pieces alone, and these are their tokens, with the end behind the last byte.
pub record AreTokens (text : List ℕ) (tokens : List Token) : Type 0 where
  pub pieces : List Piece
  pub spelled : text ≡ text_of pieces
  pub each : ArePieces start pieces []
  pub listed : tokens ≡ tokens_of start pieces ++ token_at (place_of text) (Some kind.End)

-- Pieces lead up to where the text breaks a rule.
pub record IsBroken (text : List ℕ) (at : At) (rule : Rule) : Type 0 where
  pub pieces : List Piece
  pub rest : List ℕ
  pub spelled : text ≡ text_of pieces ++ rest
  pub each : ArePieces start pieces rest
  pub broken : piece_behind (cursor_behind start pieces) rest ≡ Err (at, rule)
  pub some : rest ≡ [] → ⊥
