-- A token of the program as the token that it stands for.
use Rattle.asm_token.specs.Tokens.{Token, Name, Number, Mark}
use Rattle.asm_token.specs.declared.token.Token.{Token as Borrowed}
use Rattle.asm_token.specs.declared.token.Token.TheVariants as borrowed

abbrev pub token_of : Borrowed → Token
token_of (borrowed.Name bs) = Name bs.now
token_of (borrowed.Number z) = Number z
token_of (borrowed.Mark b) = Mark b
