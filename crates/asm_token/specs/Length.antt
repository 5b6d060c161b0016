-- How many bytes the longest token has with which a text begins, or 0.
use Rattle.std.specs.Prelude.{ℕ, ◌+◌, ◌<◌, ◌≡◌, ℤ, pos, min, Bool, ◌==◌, ◌&&◌, not, if◌then◌else◌, List, [], ◌∷◌, take}
use Rattle.std.specs.Char.{is_ascii_digit}
use Rattle.std.specs.List.{prefix_len}
use Rattle.std.specs.Str.Parse.{digits_value}
use Rattle.asm_token.specs.Tokens.{is_name_start, is_name_byte, is_mark}

abbrev pub is_nonzero_digit : ℕ → Bool
is_nonzero_digit b = is_ascii_digit b && not (b == 48)

abbrev pub digit_count : List ℕ → ℕ
digit_count bs = min 10 (prefix_len is_ascii_digit bs)

-- of a number above 0
abbrev pub magnitude_length : List ℕ → ℕ
magnitude_length [] = 0
magnitude_length (b ∷ bs) = if is_nonzero_digit b then digit_count (b ∷ bs) else 0

-- of a number below 0, whose magnitude has n digits
abbrev pub negative_length : ℕ → ℕ
negative_length n = if n == 0 then 0 else n + 1

abbrev pub token_length : List ℕ → ℕ
token_length [] = 0
token_length (b ∷ bs) =
    if is_name_start b then prefix_len is_name_byte (b ∷ bs)
    else if is_mark b then 1
    else if b == 48 then 1
    else if b == 45 then negative_length (magnitude_length bs)
    else magnitude_length (b ∷ bs)

-- the text begins with the n digits of z, a number above 0
pub record LeadingMagnitude (text : List ℕ) (z : ℤ) (n : ℕ) : Type 0 where
  pub some : 0 < n
  pub count : n ≡ magnitude_length text
  pub value : z ≡ pos (digits_value 10 (take n text))
