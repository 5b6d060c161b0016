-- What the program has in hand, without references.
use Rattle.std.specs.Prelude.{ℕ, List, map}
use Rattle.rtl_tree.specs.declared.c_names.Names.{Names}
use Rattle.rtl_spelling.specs.Holes.{Open}
use Rattle.rtl_spelling.specs.Tokens.{Token, Word, Number, Mark}
use Rattle.rtl_spelling.specs.Spelling.{Context}
use Rattle.rtl_token.specs.declared.token.Token.{Token as Borrowed}
use Rattle.rtl_token.specs.declared.token.Token.TheVariants as borrowed
use Rattle.rtl_token.specs.declared.context.Context.{Context as Borrowing}

abbrev pub token_of : Borrowed → Token
token_of (borrowed.Word bs) = Word bs.now
token_of (borrowed.Number bs) = Number bs.now
token_of (borrowed.Mark s) = Mark s

abbrev pub tokens_of : List Borrowed → List Token
tokens_of ts = map token_of ts

abbrev pub context_of : Borrowing → Context
context_of c = record { width = c.bits; objects = c.names.now.objects; functions = c.names.now.functions; holes = c.holes.now }

abbrev pub reading_context : ℕ → Names → List Open → Context
reading_context w n holes = record { width = w; objects = n.objects; functions = n.functions; holes = holes }
