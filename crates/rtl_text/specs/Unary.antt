-- The reading behind an operator that stands before its tree.
use Rattle.std.specs.Prelude.{List}
use Rattle.rtl_tree.specs.declared.expressions.UnOp.{UnOp}
use Rattle.rtl_tree.specs.Trees.{Tree, Unary}
use Rattle.rtl_spelling.specs.declared.signs.Sign.TheVariants as sign
use Rattle.rtl_spelling.specs.Tokens.{Token}
use Rattle.rtl_spelling.specs.Reading.{Read, Reader, ◌>>=◌, expect, gives}

abbrev pub unary : Reader → UnOp → List Token → Read Tree
unary R o ts = expect sign.Space ts >>= λ _ us. R us >>= λ a us. expect sign.RightParen us >>= λ _ us. gives (Unary o a) us
