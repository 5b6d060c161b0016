-- What is checked of a line.
use Rattle.std.specs.Prelude.{◌≡◌, ◌≢◌, ℕ, ◌<◌, true, List, Option, Some, None}
use Rattle.asm_token.specs.Tokens.{Token}
use Rattle.md_rows.specs.declared.description.RawDescription.{RawDescription}
use Rattle.asm_row.specs.Reading.{Value}
use Rattle.asm_row.specs.Found.{IsFound}
use Rattle.asm_program.specs.declared.rules.Rule.{Rule}
use Rattle.asm_program.specs.declared.rules.Rule.TheVariants.{NoRow, NotInPart}
use Rattle.asm_program.specs.TextLines.{Label, Said, Labelled, Unreadable}
use Rattle.asm_program.specs.Places.{Position, start}
use Rattle.asm_program.specs.Rules.{Breaks, IsMade, IsTold, IsSound, IsBrokenAt, StandsAt, Walks, AreSaid, number_of, instruction_in, is_in_place}

-- a row makes the instruction, or why not
abbrev pub IsRowChecked : RawDescription → List Said → List Token → Option Rule → Type 0
IsRowChecked d all ts None = IsMade d all ts
IsRowChecked d all ts (Some NoRow) = (place : ℕ) (values : List Value) → IsFound d ts place values → ⊥
IsRowChecked d all ts (Some NotInPart) = ((place : ℕ) × (values : List Value) × IsFound d ts place values) × (IsMade d all ts → ⊥)
IsRowChecked d all ts _ = ⊥

-- the line keeps all rules but the limits
pub record KeepsRules (d : RawDescription) (all : List Said) (p : Position) (s : Said) : Type 0 where
  pub readable : s ≢ Unreadable
  pub made : (ts : List Token) → instruction_in p.part s ≡ Some ts → IsMade d all ts
  pub first : (l : Label) → s ≡ Labelled l → StandsAt all l p.line
  pub in_place : is_in_place d.word p.part s ≡ true

-- the line breaks this rule, and none that is less
pub record IsLeast (d : RawDescription) (all : List Said) (p : Position) (s : Said) (rule : Rule) : Type 0 where
  pub breaks : Breaks d all p s rule
  pub least : (other : Rule) → number_of other < number_of rule → Breaks d all p s other → ⊥

abbrev pub IsChecked : RawDescription → List Said → Position → Said → Option Rule → Type 0
IsChecked d all p s None = KeepsRules d all p s
IsChecked d all p s (Some rule) = IsLeast d all p s rule

-- a label that the line has stands first at this place
abbrev pub IsFirstHere : List Said → ℕ → Said → Type 0
IsFirstHere all line s = (l : Label) → s ≡ Labelled l → StandsAt all l line

-- the lines keep the rules, or this is the first that breaks one
abbrev pub IsWalked : RawDescription → List Said → Option (ℕ × Rule) → Type 0
IsWalked d all None = (last : Position) × Walks d all start all last
IsWalked d all (Some told) = IsBrokenAt d all told.0 told.1

-- the text keeps the rules, or this is told of it
abbrev pub IsJudged : RawDescription → List ℕ → Option (ℕ × Rule) → Type 0
IsJudged d text None = (all : List Said) × AreSaid text all × IsSound d all
IsJudged d text (Some told) = IsTold d text told.0 told.1
