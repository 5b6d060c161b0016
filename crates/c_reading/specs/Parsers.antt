-- What every rule is read by: steps over the words that are left, and how deep the next one stands.
use Rattle.std.specs.Prelude.{ℕ, suc, Bool, true, false, if◌then◌else◌, List, [], ◌∷◌, length, Option, Some, None, Result, Ok, Err}
use denote.Enum.Bare.{sameb}
use Rattle.c_tree.specs.declared.token.At.{At}
use Rattle.c_tree.specs.declared.syntax.Identifier.{Identifier}
use Rattle.c_grammar.specs.contracts.sign.Sign.{the_type}
use Rattle.c_grammar.specs.declared.sign.Sign.{Sign}
use Rattle.c_grammar.specs.declared.sign.Sign.TheVariants as sign
use Rattle.c_grammar.specs.Words.{Word, a_name, a_sign, sign_of_word, Lexeme}

-- Why nothing was read: a word that continues no program, or one that stands too deep, with how many words are left there; or the bound on calls ran out.
pub data Trouble : Type 0 where
  Wrong Deep : ℕ → Trouble
  Out : Trouble

-- what was read, how deep the next word stands, and the words that are left
abbrev pub Read : Type 0 → Type 0
Read A = Result (A × ℕ × List Lexeme) Trouble

abbrev pub Parser : Type 0 → Type 0
Parser A = ℕ → List Lexeme → Read A

abbrev pub and_then : {A B : Type 0} → Read A → (A → Parser B) → Read B
and_then (Ok x) f = f x.0 x.1 x.2
and_then (Err e) f = Err e

infixl 10 ◌>>=◌
abbrev pub ◌>>=◌ : {A B : Type 0} → Parser A → (A → Parser B) → Parser B
p >>= f = λ n ts. and_then (p n ts) f

infixl 10 ◌>>◌
abbrev pub ◌>>◌ : {A B : Type 0} → Parser A → Parser B → Parser B
p >> q = p >>= (λ _. q)

abbrev pub pure : {A : Type 0} → A → Parser A
pure a = λ n ts. Ok (a, n, ts)

abbrev pub wrong : {A : Type 0} → Parser A
wrong = λ n ts. Err (Wrong (length ts))

abbrev pub out : {A : Type 0} → Parser A
out = λ n ts. Err Out

-- ---- the next word

unfoldable pub word_at : List Lexeme → Word
word_at [] = a_sign sign.End
word_at (x ∷ xs) = x.word

unfoldable pub place_at : List Lexeme → At
place_at [] = record { line = 0; column = 0 }
place_at (x ∷ xs) = x.at

unfoldable pub sign_at : List Lexeme → Sign
sign_at [] = sign.End
sign_at (x ∷ xs) = sign_of_word x.word

abbrev pub peek : Parser Sign
peek = λ n ts. Ok (sign_at ts, n, ts)

abbrev pub place : Parser At
place = λ n ts. Ok (place_at ts, n, ts)

abbrev pub same : Sign → Sign → Bool
same = sameb the_type

-- ---- nesting

-- one more operator, comma or cast stands before what follows
abbrev pub deeper : Parser (Unit {0})
deeper = λ n ts. Ok (tt, suc n, ts)

-- a phrase that is open up to its end
abbrev pub phrase : {A : Type 0} → Parser A → Parser A
phrase p = λ n ts. and_then (p (suc n) ts) (λ x _ us. Ok (x, n, us))

module _ (T : ℕ → Bool) where
  -- takes the next word where the test lets it stand so deep
  unfoldable pub eat : Parser (Unit {0})
  eat n [] = wrong n []
  eat n (x ∷ xs) = if T n then Ok (tt, n, xs) else Err (Deep (length (x ∷ xs)))

  -- takes a word that counts for what follows
  abbrev pub counted : Parser (Unit {0})
  counted = eat >> deeper

  unfoldable pub expect : Sign → Parser (Unit {0})
  expect s = do
    next ← peek
    if same next s then eat else wrong

  abbrev pub name_by : At → Word → Parser Identifier
  name_by at (a_name bytes) = eat >> pure (record { at = at; bytes = bytes })
  name_by at _ = wrong

  unfoldable pub name : Parser Identifier
  name = λ n ts. name_by (place_at ts) (word_at ts) n ts

  abbrev pub name_if_any_by : At → Word → Parser (Option Identifier)
  name_if_any_by at (a_name bytes) = eat >> pure (Some (record { at = at; bytes = bytes }))
  name_if_any_by at _ = pure None

  unfoldable pub name_if_any : Parser (Option Identifier)
  name_if_any = λ n ts. name_if_any_by (place_at ts) (word_at ts) n ts

  -- behind an item of a list: whether a comma stands there, and not the list's end
  unfoldable pub more : Sign → Parser Bool
  more close = do
    next ← peek
    if same next sign.Comma then eat >> pure true else (if same next close then eat >> pure false else wrong)
