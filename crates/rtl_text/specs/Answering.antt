-- What a reader of texts answers.
use Rattle.std.specs.Prelude.{ℕ, ◌≡◌, ◌-◌, List, Option, Result, Ok, Err, IfOk, IfErr, length, take}
use Rattle.rtl_tree.specs.Moves.{Move}
use Rattle.rtl_tree.specs.WellFormed.{IsWellFormed}
use Rattle.rtl_spelling.specs.Tokens.{Token, Stuck, spelled}
use Rattle.rtl_spelling.specs.Spelling.{Context, Said}
use Rattle.rtl_spelling.specs.Reading.{Trouble}
use Rattle.rtl_spelling.specs.Contract.{said_of, BadFormOf, TooDeepOf, SaysIllFormed, SpellsText, TextSays}
use Rattle.rtl_text.specs.Collected.{collected}
use Rattle.rtl_token.specs.declared.fault.TextFault.{TextFault}
use Rattle.rtl_token.specs.declared.fault.TextFault.TheVariants as fault
use Rattle.rtl_token.specs.declared.trouble.Trouble.{Trouble as Stop}
use Rattle.rtl_token.specs.declared.trouble.Trouble.TheVariants as stop

-- what was read, as moves where each place can be one
abbrev pub gathered : Result (List Said) Trouble → Result (Option (List Move)) Trouble
gathered (Ok ss) = Ok (collected ss)
gathered (Err e) = Err e

-- what a fault tells of a text
abbrev pub Refuses : Context → List ℕ → TextFault → Type 0
Refuses c text fault.NoMemory = Unit {0}
Refuses c text (fault.BadToken p) = Stuck text p
Refuses c text (fault.BadForm p) = BadFormOf c text p
Refuses c text (fault.TooDeep p) = TooDeepOf c text p
Refuses c text fault.IllFormed = SaysIllFormed c text

-- what is answered where the text spells these assignments: just them where they are a well-formed transfer, and else that they are none
abbrev pub Tells : List Said → Result (List Move) TextFault → Type 0
Tells ss (Ok ms) = ss ≡ said_of ms
Tells ss (Err fault.NoMemory) = Unit {0}
Tells ss (Err fault.IllFormed) = (ms : List Move) → ss ≡ said_of ms → IsWellFormed ms → ⊥
Tells ss (Err _) = ⊥

-- the fault at the first of the last tokens
abbrev pub fault_at : List Token → Stop → TextFault
fault_at ts stop.NoMemory = fault.NoMemory
fault_at ts (stop.Wrong n) = fault.BadForm (length (spelled (take (length ts - n) ts)))
fault_at ts (stop.Deep n) = fault.TooDeep (length (spelled (take (length ts - n) ts)))

-- all that an answer owes
pub record Outcome (c : Context) (text : List ℕ) (answer : Result (List Move) TextFault) : Type 0 where
  pub found : IfOk answer (TextSays c text)
  pub refused : IfErr answer (Refuses c text)
  pub only : (ss : List Said) → SpellsText c text ss → Tells ss answer
