-- The lines of an assembly text, and what each of them says.
use Rattle.std.specs.Prelude.{◌≡◌, ℕ, ◌<◌, ◌≤◌, ◌==◌, ℤ, Bool, true, false, if◌then◌else◌, MatchBool, List, [], ◌∷◌, length, codes}
use Rattle.std.specs.Str.{bytes_eq}
use Rattle.asm_token.specs.Tokens.{Token, Name, Number, Mark, is_blank_or_tab}
use Rattle.asm_row.specs.Found.{IsBlockName, IsSymbolOf}
use Rattle.asm_row.specs.Walk.{IsLine, LineOf}

-- a byte before the first of some lines
abbrev pub onto : ℕ → List (List ℕ) → List (List ℕ)
onto b [] = (b ∷ []) ∷ []
onto b (line ∷ lines) = (b ∷ line) ∷ lines

-- the lines of a text, each before its line feed, which the last may lack
abbrev pub lines_of : List ℕ → List (List ℕ)
lines_of [] = []
lines_of (b ∷ bs) = if b == 10 then [] ∷ lines_of bs else onto b (lines_of bs)

-- blanks and tabs alone, or `*` as the first other byte
abbrev pub is_skipped : List ℕ → Bool
is_skipped [] = true
is_skipped (b ∷ bs) = if is_blank_or_tab b then is_skipped bs else b == 42

-- the most bytes of a line
abbrev pub line_limit : ℕ
line_limit = 640

-- the label of a block, which is `L` and a number below 2 ^ 32, or `_` and a C name
pub data Label : Type 0 where
  Block : ℕ → Label
  Symbol : List ℕ → Label

abbrev pub IsLabel : List ℕ → Label → Type 0
IsLabel name (Block b) = IsBlockName name b
IsLabel name (Symbol s) = IsSymbolOf name s

pub data Said : Type 0 where
  Nothing : Said
  Unreadable : Said
  TextBegins : Said
  DataBegins : Said
  Labelled : Label → Said
  Mislabelled : Said
  Word : ℤ → Said
  Byte : ℤ → Said
  Space : ℤ → Said
  Others : List Token → Said

-- a name alone
abbrev pub says_name : List ℕ → Said
says_name name =
    if bytes_eq name (codes ".text") then TextBegins else if bytes_eq name (codes ".data") then DataBegins else Others (Name name ∷ [])

-- a name and a number
abbrev pub says_number : List ℕ → ℤ → Said
says_number name z =
    if bytes_eq name (codes ".word") then Word z
    else if bytes_eq name (codes ".byte") then Byte z
    else if bytes_eq name (codes ".space") then Space z
    else Others (Name name ∷ (Number z ∷ []))

-- a name and a colon
abbrev pub SaysLabel : List ℕ → Said → Type 0
SaysLabel name (Labelled l) = IsLabel name l
SaysLabel name Mislabelled = (l : Label) → IsLabel name l → ⊥
SaysLabel name _ = ⊥

-- what tokens say
abbrev pub SayTokens : List Token → Said → Type 0
SayTokens (Name name ∷ []) s = s ≡ says_name name
SayTokens (Name name ∷ (Number z ∷ [])) s = s ≡ says_number name z
SayTokens (Name name ∷ (Mark c ∷ [])) s = MatchBool (c == 58) (SaysLabel name s) (s ≡ Others (Name name ∷ (Mark c ∷ [])))
SayTokens ts s = s ≡ Others ts

-- what a line says
pub data Says (line : List ℕ) : Said → Type 0 where
  too_long : line_limit < length line → Says line Unreadable
  skipped : length line ≤ line_limit → is_skipped line ≡ true → Says line Nothing
  no_tokens : length line ≤ line_limit → is_skipped line ≡ false → (LineOf line → ⊥) → Says line Unreadable
  tokens : (ts : List Token) (s : Said) → length line ≤ line_limit → is_skipped line ≡ false → IsLine line ts → SayTokens ts s → Says line s
