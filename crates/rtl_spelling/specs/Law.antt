-- The laws of spelling, printing and reading.
use Rattle.std.specs.Prelude.{ℕ, suc, ◌≡◌, List, [], ◌∷◌, ◌++◌, Result, Ok, Err, length}
use Rattle.rtl_tree.specs.Moves.{Move}
use Rattle.rtl_tree.specs.WellFormed.{IsWellFormed}
use Rattle.rtl_spelling.specs.declared.signs.Sign.TheVariants as sign
use Rattle.rtl_spelling.specs.Tokens.{Token, Mark, Lexes, Stuck}
use Rattle.rtl_spelling.specs.Spelling.{Context, IsContext, Said, IsSpelled}
use Rattle.rtl_spelling.specs.Faults.{FormFault, DepthFault}
use Rattle.rtl_spelling.specs.Printing.{text_of, IsPrintable, IsTyped}
use Rattle.rtl_spelling.specs.Contract.{SpellsText, TextSays}
use Rattle.rtl_spelling.specs.Reading.{Trouble, Wrong, Deep, reading}

abbrev pub ends : List Token → ℕ
ends [] = 0
ends (Mark sign.End ∷ ts) = suc (ends ts)
ends (t ∷ ts) = ends ts

-- the end stands last, and nowhere else
pub record IsEnded (ts : List Token) : Type 0 where
  pub body : List Token
  pub is : ts ≡ body ++ Mark sign.End ∷ []
  pub none : ends body ≡ 0

-- behind these tokens n more are left
pub record Leaves (ts before : List Token) (n : ℕ) : Type 0 where
  pub rest : List Token
  pub split : ts ≡ before ++ rest
  pub left : length rest ≡ n

pub record FormFaultLeaves (c : Context) (ts : List Token) (n : ℕ) : Type 0 where
  pub before : List Token
  pub fault : FormFault c ts before
  pub leaves : Leaves ts before n

pub record DepthFaultLeaves (c : Context) (ts : List Token) (n : ℕ) : Type 0 where
  pub before : List Token
  pub fault : DepthFault c ts before
  pub leaves : Leaves ts before n

-- what a reading of tokens owes: what they spell, or where they go wrong
abbrev pub Answers : Context → List Token → Result (List Said) Trouble → Type 0
Answers c ts (Ok ms) = IsSpelled c ms ts
Answers c ts (Err (Wrong n)) = FormFaultLeaves c ts n
Answers c ts (Err (Deep n)) = DepthFaultLeaves c ts n

abbrev pub ReadingAnswers : Type 0
ReadingAnswers = (c : Context) (ts : List Token) → IsContext c → IsEnded ts → Answers c ts (reading c ts)

-- a fault has one place and is of one kind, and a spelling has none
pub record OneFault (c : Context) (ts : List Token) : Type 0 where
  pub form : (us vs : List Token) → FormFault c ts us → FormFault c ts vs → us ≡ vs
  pub depth : (us vs : List Token) → DepthFault c ts us → DepthFault c ts vs → us ≡ vs
  pub apart : (us vs : List Token) → FormFault c ts us → DepthFault c ts vs → ⊥
  pub none : (ms : List Said) → IsSpelled c ms ts → ((us : List Token) → FormFault c ts us → ⊥) × ((us : List Token) → DepthFault c ts us → ⊥)

abbrev pub AtMostOneFault : Type 0
AtMostOneFault = (c : Context) (ts : List Token) → IsContext c → OneFault c ts

-- what is spelled is read
abbrev pub SpelledIsRead : Type 0
SpelledIsRead = (c : Context) (ms : List Said) (ts : List Token) → IsContext c → IsSpelled c ms ts → reading c ts ≡ Ok ms

-- a text falls into at most one list of tokens, and into none where a byte begins no token; the end stands last, and nowhere else
abbrev pub AtMostOneLexed : Type 0
AtMostOneLexed = (text : List ℕ) (ts us : List Token) → Lexes text ts → Lexes text us → ts ≡ us

abbrev pub StuckIsNotLexed : Type 0
StuckIsNotLexed = (text : List ℕ) (p : ℕ) (ts : List Token) → Stuck text p → Lexes text ts → ⊥

abbrev pub LexedIsEnded : Type 0
LexedIsEnded = (text : List ℕ) (ts : List Token) → Lexes text ts → IsEnded ts

-- a text spells at most one transfer
abbrev pub AtMostOneSpelled : Type 0
AtMostOneSpelled = (c : Context) (text : List ℕ) (ms ns : List Said) → IsContext c → SpellsText c text ms → SpellsText c text ns → ms ≡ ns

-- what is printed says what was printed
abbrev pub PrintedSays : Type 0
PrintedSays = (c : Context) (ms : List Move) → IsContext c → IsPrintable c ms → IsTyped ms → IsWellFormed ms → TextSays c (text_of c ms) ms

-- a transfer has one spelling without holes: what is printed
abbrev pub PrintedIsOnly : Type 0
PrintedIsOnly = (c : Context) (text : List ℕ) (ms : List Move) → IsContext c → c.holes ≡ [] → TextSays c text ms → text ≡ text_of c ms
