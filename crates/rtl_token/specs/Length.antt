-- How many bytes the longest token has with which a text begins, kind by kind; 0 where none begins.
use Rattle.std.specs.Prelude.{ℕ, ◌+◌, max, ◌≡◌, Bool, ◌==◌, ◌||◌, if◌then◌else◌, List, [], ◌∷◌, ◌++◌, drop, length}
use Rattle.std.specs.Char.{is_ascii_digit}
use Rattle.std.specs.List.{prefix_len}
use Rattle.asm_token.specs.Tokens.{is_name_start, is_name_byte}
use Rattle.rtl_spelling.specs.Tokens.{Token, is_nonzero_digit, spelling, IsToken, Longest}

abbrev pub word_length : List ℕ → ℕ
word_length [] = 0
word_length (b ∷ bs) = if is_name_start b then prefix_len is_name_byte (b ∷ bs) else 0

-- of a number above 0
abbrev pub magnitude_length : List ℕ → ℕ
magnitude_length [] = 0
magnitude_length (b ∷ bs) = if is_nonzero_digit b then prefix_len is_ascii_digit (b ∷ bs) else 0

-- of a number below 0, whose magnitude has n digits
abbrev pub negative_length : ℕ → ℕ
negative_length n = if n == 0 then 0 else n + 1

abbrev pub number_length : List ℕ → ℕ
number_length [] = 0
number_length (b ∷ bs) =
    if b == 48 then 1
    else if b == 45 then negative_length (magnitude_length bs)
    else magnitude_length (b ∷ bs)

-- one of ( ) * + ; < = > ? [ ] ^ & | or a space
abbrev pub is_mark : ℕ → Bool
is_mark b =
    b == 40 || (b == 41 || (b == 42 || (b == 43 || (b == 59 || (b == 60 || (b == 61 || (b == 62 || (b == 63 || (b == 91 || (b == 93
    || (b == 94 || (b == 38 || (b == 124 || b == 32)))))))))))))

-- of a minus, or of an arrow
abbrev pub minus_length : List ℕ → ℕ
minus_length [] = 1
minus_length (b ∷ bs) = if b == 62 then 2 else 1

abbrev pub mark_length : List ℕ → ℕ
mark_length [] = 0
mark_length (b ∷ bs) = if b == 45 then minus_length bs else if is_mark b then 1 else 0

abbrev pub token_length : List ℕ → ℕ
token_length text = max (word_length text) (max (number_length text) (mark_length text))

-- the longest token with which the text begins is t, and has n bytes
pub record LongestToken (text : List ℕ) (t : Token) (n : ℕ) : Type 0 where
  pub is_token : IsToken t
  pub spelled : text ≡ spelling t ++ drop n text
  pub bytes : length (spelling t) ≡ n
  pub longest : Longest t (drop n text)
