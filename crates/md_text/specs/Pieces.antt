-- The text of a row or of a mode: tokens of assembly lines, and holes.
use Rattle.std.specs.Prelude.{◌≡◌, ℕ, ℤ, Bool, false, ◌==◌, ◌||◌, if◌then◌else◌, ◌<◌, List, [], ◌∷◌, ◌++◌, length, filter_map, map, Option, Some, None, codes}
use Rattle.std.specs.Str.{bytes_eq}
use Rattle.std.specs.Fmt.{signed_decimal}
use Rattle.std.specs.List.{list_any}
use Rattle.asm_token.specs.Tokens.{Token, Number, Mark, IsToken, IsName, Longest, spelling}

-- the numbers that a hole prints: those of a word with its sign, or those from the first to the second
pub data Range : Type 0 where
  OfWord : Range
  Between : ℤ → ℤ → Range

-- what a hole is for: a class or a mode by name, numbers (whose complement is meant where they are inverted), a symbol, a label
pub data Kind : Type 0 where
  Named : List ℕ → Kind
  Numbers : Bool → Range → Kind
  Symbols : Kind
  Labels : Kind

-- a hole of a text
pub record Slot : Type 0 where
  pub name : List ℕ
  pub kind : Kind

pub data Piece : Type 0 where
  Literal : Token → Piece
  Hole : Slot → Piece

abbrev pub range_text : Range → List ℕ
range_text OfWord = codes "word"
range_text (Between low high) = signed_decimal low ++ codes ".." ++ signed_decimal high

abbrev pub kind_text : Kind → List ℕ
kind_text (Named name) = name
kind_text (Numbers inverted range) = (if inverted then codes "!" else []) ++ range_text range
kind_text Symbols = codes "sym"
kind_text Labels = codes "label"

-- the bytes between `<` and `>`, in which no space stands
abbrev pub slot_text : Slot → List ℕ
slot_text h = h.name ++ 58 ∷ kind_text h.kind

-- the words that name a kind of their own
abbrev pub is_kind_word : List ℕ → Bool
is_kind_word name = bytes_eq name (codes "word") || (bytes_eq name (codes "sym") || bytes_eq name (codes "label"))

abbrev pub IsRange : Range → Type 0
IsRange OfWord = Unit {0}
IsRange (Between low high) = IsToken (Number low) × IsToken (Number high)

abbrev pub IsKind : Kind → Type 0
IsKind (Named name) = IsName name × (is_kind_word name ≡ false)
IsKind (Numbers inverted range) = IsRange range
IsKind _ = Unit {0}

pub record IsSlot (h : Slot) : Type 0 where
  pub named : IsName h.name
  pub kind : IsKind h.kind

abbrev pub is_colon : Token → Bool
is_colon (Mark b) = b == 58
is_colon _ = false

-- a token that may stand in a text, by longest match before these bytes
pub record IsLiteral (t : Token) (rest : List ℕ) : Type 0 where
  pub token : IsToken t
  pub no_colon : is_colon t ≡ false
  pub longest : Longest t rest

-- spaces are free between two pieces
pub data SpellsPieces : List ℕ → List Piece → Type 0 where
  at_end : SpellsPieces [] []
  after_space : (bs : List ℕ) (ps : List Piece) → SpellsPieces bs ps → SpellsPieces (32 ∷ bs) ps
  literal : (t : Token) (bs : List ℕ) (ps : List Piece) → IsLiteral t bs → SpellsPieces bs ps → SpellsPieces (spelling t ++ bs) (Literal t ∷ ps)
  hole : (h : Slot) (bs : List ℕ) (ps : List Piece) → IsSlot h → SpellsPieces bs ps → SpellsPieces (60 ∷ (slot_text h ++ 62 ∷ bs)) (Hole h ∷ ps)

-- no space stands before the first piece, and none after the last
pub record HasNoOuterSpace (bytes : List ℕ) : Type 0 where
  pub first : (rest : List ℕ) → bytes ≡ 32 ∷ rest → ⊥
  pub last : (front : List ℕ) → bytes ≡ front ++ 32 ∷ [] → ⊥

-- the bytes are a text of one or more pieces
pub record SpellsText (bytes : List ℕ) (pieces : List Piece) : Type 0 where
  pub spells : SpellsPieces bytes pieces
  pub some : 0 < length pieces
  pub trimmed : HasNoOuterSpace bytes

abbrev pub slot_of : Piece → Option Slot
slot_of (Literal t) = None
slot_of (Hole h) = Some h

-- the holes of a text, in order
abbrev pub slots : List Piece → List Slot
slots pieces = filter_map slot_of pieces

-- whether a list has this name
abbrev pub has_name : List (List ℕ) → List ℕ → Bool
has_name names name = list_any (λ other. bytes_eq other name) names

abbrev pub slot_names : List Piece → List (List ℕ)
slot_names pieces = map (λ h. h.name) (slots pieces)
