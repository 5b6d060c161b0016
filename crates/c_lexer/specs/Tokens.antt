-- What a token is (C11 6.4.1 to 6.4.6), and what separates tokens (C11 6.4.9).
use Rattle.std.specs.Prelude.{ℕ, ℤ, ◌≡◌, ◌≤◌, ◌+◌, List, [], ◌∷◌, ◌++◌, length, take, drop, Bool, true, false, not, Option, Some, None, Ok, codes, ◌⊎◌}
use Rattle.std.specs.List.{list_all}
use Rattle.std.specs.Option.{option_map}
use Rattle.c_tree.specs.declared.token.TokenKind.{TokenKind}
use Rattle.c_tree.specs.declared.token.TokenKind.TheVariants as kind
use Rattle.c_lexer.specs.declared.bytes.ByteClass.TheVariants.{Blank, LineBlank, Digit, NameByte, NumberByte}
use Rattle.c_lexer.specs.Bytes.{is_in, is_letter, first}
use Rattle.c_lexer.specs.Words.{keywords, marks, is_one_of}
use Rattle.c_lexer.specs.Constants.{constant, character_value, signed_char}
use Rattle.c_lexer.specs.Pieces.{is_line_feed, close_at, piece_at}

-- a letter or _, and letters, digits and _ behind it
pub record IsWord (bytes : List ℕ) : Type 0 where
  pub begins : is_letter (first bytes) ≡ true
  pub all : list_all (is_in NameByte) bytes ≡ true

-- a digit, and letters, digits, _ and . behind it
pub record IsNumeral (bytes : List ℕ) : Type 0 where
  pub begins : is_in Digit (first bytes) ≡ true
  pub all : list_all (is_in NumberByte) bytes ≡ true

pub record IsCharacter (bytes : List ℕ) (value : ℤ) : Type 0 where
  pub content : List ℕ
  pub spelled : bytes ≡ 39 ∷ (content ++ 39 ∷ [])
  pub worth : option_map signed_char (character_value content) ≡ Some value

pub record IsInclude (bytes : List ℕ) : Type 0 where
  pub before : List ℕ
  pub between : List ℕ
  pub spelled : bytes ≡ 35 ∷ (before ++ (codes "include" ++ (between ++ codes "<stdio.h>")))
  pub blank : list_all (is_in LineBlank) before ≡ true
  pub blank_too : list_all (is_in LineBlank) between ≡ true

-- these bytes spell a token
abbrev pub Spells : TokenKind → List ℕ → Type 0
Spells (kind.Name n) bytes = (n ≡ bytes) × IsWord bytes × (is_one_of keywords bytes ≡ false) × (length bytes ≤ 63)
Spells (kind.Keyword n) bytes = (n ≡ bytes) × IsWord bytes × (is_one_of keywords bytes ≡ true) × (length bytes ≤ 63)
Spells (kind.Number v d u) bytes = IsNumeral bytes × (constant bytes ≡ Some (kind.Number v d u))
Spells (kind.Character value) bytes = IsCharacter bytes value
Spells (kind.Mark m) bytes = (m ≡ bytes) × (is_one_of marks bytes ≡ true)
Spells kind.Include bytes = IsInclude bytes
Spells kind.End bytes = ⊥

-- a token that is found at the front of a text is spelled there, and no longer front spells a token
pub record IsLongest (text : List ℕ) (k : TokenKind) (n : ℕ) : Type 0 where
  pub spelled : Spells k (take n text)
  pub longest : (front after : List ℕ) (j : TokenKind) → text ≡ front ++ after → Spells j front → length front ≤ n

-- a token that bytes behind it could make longer; a character constant and an include line have an end of their own
abbrev pub may_go_on : TokenKind → Bool
may_go_on (kind.Character value) = false
may_go_on kind.Include = false
may_go_on _ = true

abbrev pub LongestMatch : Type 0
LongestMatch = (fresh : Bool) (text : List ℕ) (k : TokenKind) (n : ℕ) → may_go_on k ≡ true → piece_at fresh text ≡ Ok (Some k, n) → IsLongest text k n
