-- A text, token by token.
use Rattle.std.specs.Prelude.{◌≡◌, ℕ, ◌<◌, List, [], ◌∷◌, false, length}
use Rattle.asm_token.specs.Tokens.{Token, Spells, is_blank_or_tab}
use Rattle.asm_token.specs.Seen.{token_of}
use Rattle.asm_row.specs.declared.tokens.Next.{Next}
use Rattle.asm_row.specs.declared.tokens.Next.TheVariants as next

-- the text has these tokens
abbrev pub IsLine : List ℕ → List Token → Type 0
IsLine text tokens = Spells is_blank_or_tab text tokens

-- a text of tokens
abbrev pub LineOf : List ℕ → Type 0
LineOf text = (tokens : List Token) × IsLine text tokens

abbrev pub BeginsWithNoGap : List ℕ → Type 0
BeginsWithNoGap [] = Unit {0}
BeginsWithNoGap (b ∷ bs) = is_blank_or_tab b ≡ false

-- the tokens are t and those of what is left
pub record Splits (t : Token) (rest : List ℕ) (tokens : List Token) : Type 0 where
  pub others : List Token
  pub are : tokens ≡ t ∷ others
  pub line : IsLine rest others

-- the text begins with the token t
pub record IsToken (text : List ℕ) (t : Token) (rest : List ℕ) : Type 0 where
  pub onward : (others : List Token) → IsLine rest others → IsLine text (t ∷ others)
  pub back : (tokens : List Token) → IsLine text tokens → Splits t rest tokens
  pub shorter : length rest < length text

pub record IsEnd (text : List ℕ) : Type 0 where
  pub empty : IsLine text []
  pub only : (tokens : List Token) → IsLine text tokens → tokens ≡ []

abbrev pub IsNext : List ℕ → Next → Type 0
IsNext text next.End = IsEnd text
IsNext text next.Bad = (tokens : List Token) → IsLine text tokens → ⊥
IsNext text (next.Token t rest) = IsToken text (token_of t) rest.now
