-- How the tokens of a line are separated, token by token.
use Rattle.std.specs.Prelude.{ℕ, if◌then◌else◌, List, [], ◌∷◌, ◌++◌}
use Rattle.asm_token.specs.Tokens.{Token, spelling}
use Rattle.asm_token.specs.Line.{is_word}
use Rattle.asm_line.specs.declared.writing.Before.{Before}
use Rattle.asm_line.specs.declared.writing.Before.TheVariants.{Start, FirstToken, Word, Mark}

abbrev pub separator : Before → Token → List ℕ
separator Start t = []
separator FirstToken t = 32 ∷ []
separator Word t = if is_word t then 32 ∷ [] else []
separator Mark t = []

abbrev pub kind_of : Token → Before
kind_of t = if is_word t then Word else Mark

-- what stands before the token after t
abbrev pub next_before : Before → Token → Before
next_before Start t = FirstToken
next_before FirstToken t = kind_of t
next_before Word t = kind_of t
next_before Mark t = kind_of t

-- the rest of a line
abbrev pub line_from : Before → List Token → List ℕ
line_from before [] = []
line_from before (t ∷ ts) = separator before t ++ (spelling t ++ line_from (next_before before t) ts)
