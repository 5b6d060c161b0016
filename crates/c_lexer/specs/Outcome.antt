-- What lexing a text gives: its tokens, or the first rule that it breaks and where.
use Rattle.std.specs.Prelude.{ℕ, ◌≡◌, List, Result, Ok, Err}
use Rattle.vp_io.specs.declared.answers.Reason.{Reason}
use Rattle.c_tree.specs.declared.fault.CFault.{CFault}
use Rattle.c_tree.specs.declared.fault.CFault.TheVariants.{NoMemory, Bad}
use Rattle.c_tree.specs.declared.token.At.{At}
use Rattle.c_tree.specs.declared.token.Token.{Token}
use Rattle.c_lexer.specs.declared.rule.Rule.{Rule}
use Rattle.c_lexer.specs.declared.rule.Rule.TheVariants.{Unknown, Misspelt, OpenComment, LongName}
use Rattle.c_lexer.specs.Lexing.{AreTokens, IsBroken}

abbrev pub rule_number : Rule → ℕ
rule_number Unknown = 1
rule_number Misspelt = 2
rule_number OpenComment = 3
rule_number LongName = 4

abbrev pub reason_of : At → Rule → Reason
reason_of at rule = record { line = at.line; column = at.column; rule = rule_number rule; detail = 0 }

-- a reason tells the first fault of a text
pub record IsReason (text : List ℕ) (reason : Reason) : Type 0 where
  pub at : At
  pub rule : Rule
  pub broken : IsBroken text at rule
  pub told : reason ≡ reason_of at rule

-- want of memory tells nothing
abbrev pub Refuses : List ℕ → CFault → Type 0
Refuses text NoMemory = Unit {0}
Refuses text (Bad reason) = IsReason text reason

abbrev pub IsOutcome : List ℕ → Result (List Token) Reason → Type 0
IsOutcome text (Ok tokens) = AreTokens text tokens
IsOutcome text (Err reason) = IsReason text reason

-- a text has at most one list of tokens or first fault
abbrev pub OneOutcome : Type 0
OneOutcome = (text : List ℕ) (one other : Result (List Token) Reason) → IsOutcome text one → IsOutcome text other → one ≡ other
