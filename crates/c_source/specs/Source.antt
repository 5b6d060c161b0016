-- Which tree a text spells, and why it spells none.
use Rattle.std.specs.Prelude.{ℕ, ◌≡◌, List, Result, Ok, Err}
use Rattle.vp_io.specs.declared.answers.Reason.{Reason}
use Rattle.c_tree.specs.declared.fault.CFault.{CFault}
use Rattle.c_tree.specs.declared.fault.CFault.TheVariants.{NoMemory, Bad}
use Rattle.c_tree.specs.declared.token.Token.{Token}
use Rattle.c_tree.specs.declared.syntax.Syntax.{Syntax}
use Rattle.c_lexer.specs.Lexing.{AreTokens}
use Rattle.c_lexer.specs.Outcome.{IsReason}
use Rattle.c_grammar.specs.Words.{lexemes}
use Rattle.c_grammar.specs.Spelling.{Spelled}
use Rattle.c_parser.specs.Answers.{Breaks}

-- THE SPELLING: the tokens of the text are those of the tree
pub record SpellsTree (text : List ℕ) (tree : Syntax) : Type 0 where
  pub tokens : List Token
  pub lexed : AreTokens text tokens
  pub spelled : Spelled (lexemes tokens) tree

-- the text has no tokens, or they have no tree
pub data IsRefused (text : List ℕ) (reason : Reason) : Type 0 where
  no_tokens : IsReason text reason → IsRefused text reason
  no_tree : (tokens : List Token) → AreTokens text tokens → Breaks (lexemes tokens) reason → IsRefused text reason

-- want of memory tells nothing
abbrev pub Refuses : List ℕ → CFault → Type 0
Refuses text NoMemory = Unit {0}
Refuses text (Bad reason) = IsRefused text reason

abbrev pub IsOutcome : List ℕ → Result Syntax Reason → Type 0
IsOutcome text (Ok tree) = SpellsTree text tree
IsOutcome text (Err reason) = IsRefused text reason

-- a text has at most one tree or reason
abbrev pub OneOutcome : Type 0
OneOutcome = (text : List ℕ) (one other : Result Syntax Reason) → IsOutcome text one → IsOutcome text other → one ≡ other
