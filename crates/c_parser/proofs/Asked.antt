-- What is asked of a tree and of a sign, where proofs see through it.
use Rattle.std.specs.Prelude.{Option, Some, None}
use Rattle.c_tree.specs.declared.token.At.{At}
use Rattle.c_tree.specs.declared.syntax.Expr.{Expr, out-Expr}
use Rattle.c_tree.specs.declared.syntax.TypeWords.{TypeWords}
use Rattle.c_tree.specs.declared.syntax.TypeWords.TheVariants as words
use Rattle.c_grammar.specs.declared.sign.Sign.{Sign}
use Rattle.c_grammar.specs.declared.sign.Sign.TheVariants as sign
use Rattle.c_tree.specs.Places.{place_in}

abbrev pub place_of : Expr → At
place_of e = place_in (out-Expr e)

abbrev pub type_of : Sign → Option TypeWords
type_of sign.Char = Some words.Char
type_of sign.Int = Some words.Int
type_of sign.Signed = Some words.Signed
type_of sign.Unsigned = Some words.Unsigned
type_of _ = None

abbrev pub joined : TypeWords → Sign → Option TypeWords
joined words.Char sign.Signed = Some words.CharSigned
joined words.Char sign.Unsigned = Some words.CharUnsigned
joined words.Int sign.Signed = Some words.IntSigned
joined words.Int sign.Unsigned = Some words.IntUnsigned
joined words.Signed sign.Char = Some words.SignedChar
joined words.Signed sign.Int = Some words.SignedInt
joined words.Unsigned sign.Char = Some words.UnsignedChar
joined words.Unsigned sign.Int = Some words.UnsignedInt
joined _ _ = None
