-- The tokens of an assembly line, the bytes that spell each, and the tokens that a text spells.
use Rattle.std.specs.Prelude.{ℕ, ◌^◌, ◌<◌, ◌≤◌, ◌≡◌, ◌==◌, ℤ, Bool, ◌||◌, List, [], ◌∷◌, ◌++◌, length, drop, IsTrue}
use Rattle.std.specs.Char.{is_ascii_alphabetic, is_ascii_digit}
use Rattle.std.specs.Fmt.{signed_decimal}
use Rattle.std.specs.Int.RustNames.{unsigned_abs}
use Rattle.std.specs.List.{AllPass}

pub data Token : Type 0 where
  Name : List ℕ → Token
  Number : ℤ → Token
  Mark : ℕ → Token

-- a letter, `_`, `$` or `.`
abbrev pub is_name_start : ℕ → Bool
is_name_start b = is_ascii_alphabetic b || (b == 95 || (b == 36 || b == 46))

abbrev pub is_name_byte : ℕ → Bool
is_name_byte b = is_name_start b || is_ascii_digit b

-- one of # ( ) , + @ :
abbrev pub is_mark : ℕ → Bool
is_mark b = b == 35 || (b == 40 || (b == 41 || (b == 44 || (b == 43 || (b == 64 || b == 58)))))

abbrev pub IsName : List ℕ → Type 0
IsName [] = ⊥
IsName (b ∷ bs) = IsTrue (is_name_start b) × AllPass is_name_byte bs

-- a number has at most ten digits
abbrev pub IsToken : Token → Type 0
IsToken (Name bs) = IsName bs
IsToken (Number z) = unsigned_abs z < 10 ^ 10
IsToken (Mark b) = IsTrue (is_mark b)

abbrev pub spelling : Token → List ℕ
spelling (Name bs) = bs
spelling (Number z) = signed_decimal z
spelling (Mark b) = b ∷ []

-- no longer token begins where t is followed by these bytes
pub record Longest (t : Token) (rest : List ℕ) : Type 0 where
  pub at_least : (u : Token) (more : List ℕ) → IsToken u → spelling t ++ rest ≡ spelling u ++ more → length (spelling u) ≤ length (spelling t)

-- the tokens of a text, by longest match; gap bytes between them are free
pub data Spells (gap : ℕ → Bool) : List ℕ → List Token → Type 0 where
  at_end : Spells gap [] []
  after_gap : (b : ℕ) (bs : List ℕ) (ts : List Token) → IsTrue (gap b) → Spells gap bs ts → Spells gap (b ∷ bs) ts
  one_token : (t : Token) (bs : List ℕ) (ts : List Token) → IsToken t → Longest t bs → Spells gap bs ts → Spells gap (spelling t ++ bs) (t ∷ ts)

-- the longest token with which the text begins is t, and has n bytes
pub record LongestToken (text : List ℕ) (t : Token) (n : ℕ) : Type 0 where
  pub is_token : IsToken t
  pub spelled : text ≡ spelling t ++ drop n text
  pub bytes : length (spelling t) ≡ n
  pub longest : Longest t (drop n text)

abbrev pub BeginsNoToken : List ℕ → Type 0
BeginsNoToken text = (t : Token) (rest : List ℕ) → IsToken t → text ≡ spelling t ++ rest → ⊥

-- no token begins with a gap byte
pub record IsGap (gap : ℕ → Bool) : Type 0 where
  pub apart : (b : ℕ) (bs : List ℕ) → IsTrue (gap b) → BeginsNoToken (b ∷ bs)

-- the gaps of a description's text
abbrev pub is_blank : ℕ → Bool
is_blank b = b == 32

-- the gaps of an assembly line
abbrev pub is_blank_or_tab : ℕ → Bool
is_blank_or_tab b = b == 32 || b == 9
