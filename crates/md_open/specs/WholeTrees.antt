-- Tokens that are one tree.
use Rattle.std.specs.Prelude.{◌≡◌, List, [], ◌∷◌, ◌++◌}
use Rattle.rtl_tree.specs.Trees.{Tree}
use Rattle.rtl_spelling.specs.declared.signs.Sign.TheVariants as sign
use Rattle.rtl_spelling.specs.Tokens.{Token, Mark}
use Rattle.rtl_spelling.specs.Spelling.{Context, Placed, Spells, AreWithin, tokens_in}

-- the tokens spell the tree within depth 32, and the end stands behind it
pub record IsWholeTree (c : Context) (t : Tree) (tokens : List Token) : Type 0 where
  pub placed : List Placed
  pub split : tokens ≡ tokens_in placed ++ Mark sign.End ∷ []
  pub spells : Spells c 1 t placed
  pub within : AreWithin 32 placed
