-- The tokens of a transfer's text, the bytes that spell each, and the tokens to which a text falls apart.
use Rattle.std.specs.Prelude.{ℕ, ◌+◌, ◌≤◌, ◌≡◌, ◌==◌, ◌⊎◌, Bool, not, ◌&&◌, List, [], ◌∷◌, ◌++◌, length, flat_map, IsTrue, codes}
use Rattle.std.specs.Char.{is_ascii_digit}
use Rattle.std.specs.List.{AllPass}
use Rattle.asm_token.specs.Tokens.{IsName}
use Rattle.rtl_spelling.specs.declared.signs.Sign.{Sign}
use Rattle.rtl_spelling.specs.declared.signs.Sign.TheVariants as sign

-- words and numbers stand as their bytes
pub data Token : Type 0 where
  Word : List ℕ → Token
  Number : List ℕ → Token
  Mark : Sign → Token

abbrev pub is_nonzero_digit : ℕ → Bool
is_nonzero_digit b = is_ascii_digit b && not (b == 48)

-- a digit that isn't 0, and any digits
abbrev pub IsMagnitude : List ℕ → Type 0
IsMagnitude [] = ⊥
IsMagnitude (b ∷ bs) = IsTrue (is_nonzero_digit b) × AllPass is_ascii_digit bs

-- 0, or a magnitude, with or without a minus
abbrev pub IsNumber : List ℕ → Type 0
IsNumber bs = (bs ≡ codes "0") ⊎ IsMagnitude bs ⊎ ((ds : List ℕ) × (bs ≡ 45 ∷ ds) × IsMagnitude ds)

abbrev pub sign_bytes : Sign → List ℕ
sign_bytes sign.Space = codes " "
sign_bytes sign.LeftBracket = codes "["
sign_bytes sign.RightBracket = codes "]"
sign_bytes sign.LeftParen = codes "("
sign_bytes sign.RightParen = codes ")"
sign_bytes sign.Semicolon = codes ";"
sign_bytes sign.Equals = codes "="
sign_bytes sign.Plus = codes "+"
sign_bytes sign.Minus = codes "-"
sign_bytes sign.Star = codes "*"
sign_bytes sign.Ampersand = codes "&"
sign_bytes sign.Bar = codes "|"
sign_bytes sign.Caret = codes "^"
sign_bytes sign.Question = codes "?"
sign_bytes sign.Less = codes "<"
sign_bytes sign.Greater = codes ">"
sign_bytes sign.Arrow = codes "->"
sign_bytes sign.End = []

abbrev pub spelling : Token → List ℕ
spelling (Word bs) = bs
spelling (Number bs) = bs
spelling (Mark s) = sign_bytes s

-- the bytes of several tokens, one behind the other
abbrev pub spelled : List Token → List ℕ
spelled ts = flat_map spelling ts

-- a word is a name of assembly lines; the end has no bytes to be met
abbrev pub IsToken : Token → Type 0
IsToken (Word bs) = IsName bs
IsToken (Number bs) = IsNumber bs
IsToken (Mark sign.End) = ⊥
IsToken (Mark s) = Unit {0}

-- no longer token begins where t is followed by these bytes
pub record Longest (t : Token) (rest : List ℕ) : Type 0 where
  pub at_least : (u : Token) (more : List ℕ) → IsToken u → spelling t ++ rest ≡ spelling u ++ more → length (spelling u) ≤ length (spelling t)

-- the tokens of a whole text, by longest match from its front
pub data Lexes : List ℕ → List Token → Type 0 where
  at_end : Lexes [] (Mark sign.End ∷ [])
  one_token : (t : Token) (bs : List ℕ) (ts : List Token) → IsToken t → Longest t bs → Lexes bs ts → Lexes (spelling t ++ bs) (t ∷ ts)

abbrev pub BeginsNoToken : List ℕ → Type 0
BeginsNoToken text = (t : Token) (rest : List ℕ) → IsToken t → text ≡ spelling t ++ rest → ⊥

-- tokens by longest match lead to a byte at this place, where none begins
pub data Stuck : List ℕ → ℕ → Type 0 where
  here : (b : ℕ) (bs : List ℕ) → BeginsNoToken (b ∷ bs) → Stuck (b ∷ bs) 0
  after : (t : Token) (bs : List ℕ) (p : ℕ) → IsToken t → Longest t bs → Stuck bs p → Stuck (spelling t ++ bs) (length (spelling t) + p)
