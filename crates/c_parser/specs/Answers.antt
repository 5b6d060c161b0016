-- What the parser answers.
use Rattle.std.specs.Prelude.{ℕ, ◌≡◌, Result, Ok, Err, List}
use Rattle.vp_io.specs.declared.answers.Reason.{Reason}
use Rattle.c_tree.specs.declared.token.At.{At}
use Rattle.c_tree.specs.declared.fault.CFault.{CFault}
use Rattle.c_tree.specs.declared.fault.CFault.TheVariants.{NoMemory, Bad}
use Rattle.c_tree.specs.declared.syntax.Syntax.{Syntax}
use Rattle.c_grammar.specs.Words.{Lexeme}
use Rattle.c_grammar.specs.Spelling.{FirstBad, FirstDeep}

abbrev pub reason_of : ℕ → At → Reason
reason_of rule at = record { line = at.line; column = at.column; rule = rule; detail = 0 }

-- rule 5 at the first token that continues no program, and rule 6 at the first that stands too deep
pub data Breaks (ts : List Lexeme) (reason : Reason) : Type 0 where
  no_program : (at : At) → FirstBad ts at → reason ≡ reason_of 5 at → Breaks ts reason
  too_deep : (at : At) → FirstDeep ts at → reason ≡ reason_of 6 at → Breaks ts reason

-- want of memory tells nothing
abbrev pub Refuses : List Lexeme → CFault → Type 0
Refuses ts NoMemory = Unit {0}
Refuses ts (Bad reason) = Breaks ts reason

-- the answer is this tree, unless memory runs out
abbrev pub Finds : Syntax → Result Syntax CFault → Type 0
Finds tree (Ok found) = found ≡ tree
Finds tree (Err NoMemory) = Unit {0}
Finds tree (Err (Bad reason)) = ⊥
