-- Laws of the spelling, and of what refuses tokens.
use Rattle.std.specs.Prelude.{ℕ, ◌≡◌, ◌⊎◌, List}
use Rattle.vp_io.specs.declared.answers.Reason.{Reason}
use Rattle.c_tree.specs.declared.syntax.Syntax.{Syntax}
use Rattle.c_tree.specs.declared.token.Token.{Token}
use Rattle.c_lexer.specs.Lexing.{AreTokens}
use Rattle.c_grammar.specs.Words.{Lexeme, lexemes}
use Rattle.c_grammar.specs.Spelling.{Spelled, Ended}
use Rattle.c_parser.specs.Answers.{Breaks}

-- tokens are spelled by at most one tree
abbrev pub Unique : Type 0
Unique = (ts : List Lexeme) (one other : Syntax) → Spelled ts one → Spelled ts other → one ≡ other

-- tokens are refused by one rule at most, at one place
abbrev pub OneRefusal : Type 0
OneRefusal = (ts : List Lexeme) (one other : Reason) → Breaks ts one → Breaks ts other → one ≡ other

-- those of a tree are refused by none
abbrev pub NoTreeIsRefused : Type 0
NoTreeIsRefused = (ts : List Lexeme) (tree : Syntax) (reason : Reason) → Spelled ts tree → Breaks ts reason → ⊥

-- those with their end are those of a tree, or are refused
abbrev pub SpelledOrRefused : Type 0
SpelledOrRefused = (ts : List Lexeme) → Ended ts → ((tree : Syntax) × Spelled ts tree) ⊎ ((reason : Reason) × Breaks ts reason)

-- the tokens of a text have their end last, and nowhere else
abbrev pub LexedIsEnded : Type 0
LexedIsEnded = (text : List ℕ) (tokens : List Token) → AreTokens text tokens → Ended (lexemes tokens)
