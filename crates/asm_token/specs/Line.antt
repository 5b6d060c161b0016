-- The text of an instruction's line, as the writer gives it.
use Rattle.std.specs.Prelude.{ℕ, Bool, true, false, ◌&&◌, if◌then◌else◌, List, [], ◌∷◌, ◌++◌}
use Rattle.asm_token.specs.Tokens.{Token, Name, Number, Mark, spelling}

abbrev pub is_word : Token → Bool
is_word (Name bs) = true
is_word (Number z) = true
is_word (Mark b) = false

-- a space stands between two tokens that are names or numbers
abbrev pub space_between : Token → Token → List ℕ
space_between t u = if is_word t && is_word u then 32 ∷ [] else []

abbrev pub after_token : Token → List Token → List ℕ
after_token t [] = []
after_token t (u ∷ us) = space_between t u ++ (spelling u ++ after_token u us)

-- a space stands also after the first token, where another follows
abbrev pub line_of : List Token → List ℕ
line_of [] = []
line_of (t ∷ []) = spelling t
line_of (t ∷ (u ∷ us)) = spelling t ++ (32 ∷ (spelling u ++ after_token u us))
