-- What a token is: a name, a constant, or a sign of the grammar.
use Rattle.std.specs.Prelude.{ℕ, ℤ, List, [], ◌∷◌, codes, Bool, if◌then◌else◌, map}
use Rattle.std.specs.Str.{bytes_eq}
use Rattle.c_tree.specs.declared.token.At.{At}
use Rattle.c_tree.specs.declared.token.Token.{Token}
use Rattle.c_tree.specs.declared.token.TokenKind.{TokenKind}
use Rattle.c_tree.specs.declared.token.TokenKind.TheVariants as kind
use Rattle.c_grammar.specs.declared.sign.Sign.{Sign}
use Rattle.c_grammar.specs.declared.sign.Sign.TheVariants as sign

-- the sign of the first entry that passes
abbrev pub sign_by : {A : Type 0} → (A → Bool) → (A → Sign) → List A → Sign
sign_by p f [] = sign.Other
sign_by p f (entry ∷ entries) = if p entry then f entry else sign_by p f entries

unfoldable pub keywords : List (List ℕ × Sign)
keywords = (codes "break", sign.Break) ∷ (codes "case", sign.Case) ∷ (codes "char", sign.Char) ∷ (codes "continue", sign.Continue)
    ∷ (codes "default", sign.Default) ∷ (codes "do", sign.Do) ∷ (codes "else", sign.Else) ∷ (codes "for", sign.For)
    ∷ (codes "if", sign.If) ∷ (codes "int", sign.Int) ∷ (codes "return", sign.Return) ∷ (codes "signed", sign.Signed)
    ∷ (codes "switch", sign.Switch) ∷ (codes "unsigned", sign.Unsigned) ∷ (codes "void", sign.Void) ∷ (codes "while", sign.While) ∷ []

unfoldable pub marks : List (List ℕ × Sign)
marks = (codes "<<=", sign.AssignShiftLeft) ∷ (codes ">>=", sign.AssignShiftRight) ∷ (codes "+=", sign.AssignAdd) ∷ (codes "-=", sign.AssignSubtract)
    ∷ (codes "*=", sign.AssignMultiply) ∷ (codes "/=", sign.AssignDivide) ∷ (codes "%=", sign.AssignRemainder) ∷ (codes "&=", sign.AssignAnd)
    ∷ (codes "|=", sign.AssignOr) ∷ (codes "^=", sign.AssignXor) ∷ (codes "<<", sign.ShiftLeft) ∷ (codes ">>", sign.ShiftRight)
    ∷ (codes "<=", sign.LessEqual) ∷ (codes ">=", sign.GreaterEqual) ∷ (codes "==", sign.Equal) ∷ (codes "!=", sign.NotEqual)
    ∷ (codes "&&", sign.LogicalAnd) ∷ (codes "||", sign.LogicalOr) ∷ (codes "++", sign.Increment) ∷ (codes "--", sign.Decrement)
    ∷ (codes "(", sign.LeftParen) ∷ (codes ")", sign.RightParen) ∷ (codes "[", sign.LeftBracket) ∷ (codes "]", sign.RightBracket)
    ∷ (codes "{", sign.LeftBrace) ∷ (codes "}", sign.RightBrace) ∷ (codes ";", sign.Semicolon) ∷ (codes ",", sign.Comma)
    ∷ (codes ":", sign.Colon) ∷ (codes "?", sign.Question) ∷ (codes "=", sign.Assign) ∷ (codes "+", sign.Plus)
    ∷ (codes "-", sign.Minus) ∷ (codes "*", sign.Star) ∷ (codes "/", sign.Slash) ∷ (codes "%", sign.Percent)
    ∷ (codes "&", sign.Ampersand) ∷ (codes "|", sign.Bar) ∷ (codes "^", sign.Caret) ∷ (codes "<", sign.Less)
    ∷ (codes ">", sign.Greater) ∷ (codes "~", sign.Tilde) ∷ (codes "!", sign.Exclamation) ∷ []

abbrev pub sign_in : List (List ℕ × Sign) → List ℕ → Sign
sign_in table text = sign_by (λ entry. bytes_eq entry.0 text) (λ entry. entry.1) table

unfoldable pub keyword_sign : List ℕ → Sign
keyword_sign text = sign_in keywords text

unfoldable pub mark_sign : List ℕ → Sign
mark_sign text = sign_in marks text

pub data Word : Type 0 where
  a_name : List ℕ → Word
  a_number : ℕ → Bool → Bool → Word
  a_character : ℤ → Word
  a_sign : Sign → Word

abbrev pub word_of : TokenKind → Word
word_of (kind.Name bytes) = a_name bytes
word_of (kind.Keyword bytes) = a_sign (keyword_sign bytes)
word_of (kind.Number value decimal unsigned) = a_number value decimal unsigned
word_of (kind.Character value) = a_character value
word_of (kind.Mark bytes) = a_sign (mark_sign bytes)
word_of kind.Include = a_sign sign.Include
word_of kind.End = a_sign sign.End

abbrev pub sign_of_word : Word → Sign
sign_of_word (a_sign s) = s
sign_of_word _ = sign.Other

-- a word with the place of its first byte
pub record Lexeme : Type 0 where
  pub word : Word
  pub at : At

abbrev pub lexemes : List Token → List Lexeme
lexemes = map (λ token. record { word = word_of token.kind; at = token.at })
