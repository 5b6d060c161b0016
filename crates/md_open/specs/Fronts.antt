-- Tokens that begin with no hole.
use Rattle.std.specs.Prelude.{◌≢◌, ℕ, List, ◌∷◌}
use Rattle.rtl_spelling.specs.Tokens.{Token, Word, Mark}
use Rattle.rtl_spelling.specs.declared.signs.Sign.TheVariants as sign

abbrev pub BeginsNoHole : List Token → Type 0
BeginsNoHole tokens = (name : List ℕ) (rest : List Token) → tokens ≢ Mark sign.Less ∷ Word name ∷ rest
