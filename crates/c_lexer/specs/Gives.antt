-- What the code found, seen as what the definitions find. Want of memory tells nothing.
use Rattle.std.specs.Prelude.{ℕ, ◌≡◌, ◌<◌, ◌≤◌, List, length, take, Option, Result, Ok, Err}
use Rattle.c_tree.specs.declared.token.TokenKind.{TokenKind}
use Rattle.c_lexer.specs.declared.rule.Trouble.{Trouble}
use Rattle.c_lexer.specs.declared.rule.Trouble.TheVariants as trouble
use Rattle.c_tree.specs.declared.token.At.{At}
use Rattle.c_lexer.specs.declared.rule.Rule.{Rule}
use Rattle.c_lexer.specs.declared.rule.Fault.{Fault}
use Rattle.c_lexer.specs.declared.rule.Fault.TheVariants as fault
use Rattle.c_lexer.specs.Pieces.{Found}
use Rattle.c_lexer.specs.Lexing.{Piece, IsBroken}

abbrev pub Finds : Result (Option TokenKind × ℕ) Trouble → Found → Type 0
Finds (Ok x) found = found ≡ Ok x
Finds (Err trouble.NoMemory) found = Unit {0}
Finds (Err (trouble.Breaks rule)) found = found ≡ Err rule

-- what was found isn't empty, and lies in the text
abbrev pub LiesIn : List ℕ → Result (Option TokenKind × ℕ) Trouble → Type 0
LiesIn text (Ok x) = (0 < x.1) × (x.1 ≤ length text)
LiesIn text (Err e) = Unit {0}

abbrev pub Fails : {A : Type 0} → Fault → Result A (At × Rule) → Type 0
Fails fault.NoMemory read = Unit {0}
Fails (fault.Breaks at rule) read = read ≡ Err (at, rule)

abbrev pub Takes : List ℕ → Result (Option TokenKind × ℕ) Fault → Result Piece (At × Rule) → Type 0
Takes text (Ok x) read = read ≡ Ok (record { bytes = take x.1 text; token = x.0 })
Takes text (Err e) read = Fails e read

abbrev pub TakesIn : List ℕ → Result (Option TokenKind × ℕ) Fault → Type 0
TakesIn text (Ok x) = (0 < x.1) × (x.1 ≤ length text)
TakesIn text (Err e) = Unit {0}

abbrev pub IsFirstFault : List ℕ → Fault → Type 0
IsFirstFault text fault.NoMemory = Unit {0}
IsFirstFault text (fault.Breaks at rule) = IsBroken text at rule
