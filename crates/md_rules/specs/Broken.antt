-- The rules of what a text declares, and which of them is told.
use Rattle.std.specs.Prelude.{◌<◌, ◌≤◌, ℕ, Option, Some, None}
use Rattle.md_text.specs.Declarations.{Declared}
use Rattle.md_text.specs.Heading.{is_out_of_range}
use Rattle.md_text.specs.Rules.{is_declared_twice, is_undeclared, has_reserved_name, HasGoodTransfer, has_misused_hole, has_mode_in_mode, is_too_large}
use Rattle.md_text.specs.Accepted.{Rule, BadByte, OtherVersion, NoForm, BadHeading, OutOfRange, DeclaredTwice, NotDeclared, ReservedName, WrongRoles, BadTransfer, MisusedHole, ModeInMode, TooLarge, TooMany, number_of, HasBroken, HasBadHeading, HasWrongRoles, HasBrokenRow, HasTooMany}
use Rattle.md_forms.specs.declared.rules.Told.{Told}
use Rattle.md_forms.specs.SeenRules.{rule_of}
use Rattle.std.specs.Prelude.{IsTrue}

-- what is declared breaks this rule at this line; the first three rules are of texts alone
abbrev pub BreaksBy : Rule → Declared → ℕ → Type 0
BreaksBy BadByte d line = ⊥
BreaksBy OtherVersion d line = ⊥
BreaksBy NoForm d line = ⊥
BreaksBy BadHeading d line = HasBadHeading d line
BreaksBy OutOfRange d line = HasBroken (is_out_of_range d.width) d.all line
BreaksBy DeclaredTwice d line = HasBroken is_declared_twice d.all line
BreaksBy NotDeclared d line = HasBroken is_undeclared d.all line
BreaksBy ReservedName d line = HasBroken has_reserved_name d.all line
BreaksBy WrongRoles d line = HasWrongRoles d line
BreaksBy BadTransfer d line = HasBrokenRow (λ row. HasGoodTransfer row → ⊥) d line
BreaksBy MisusedHole d line = HasBroken has_misused_hole d.all line
BreaksBy ModeInMode d line = HasBroken has_mode_in_mode d.all line
BreaksBy TooLarge d line = HasBrokenRow (λ row. IsTrue (is_too_large row)) d line
BreaksBy TooMany d line = HasTooMany d line

-- of the rules from number low to below high, this one is the least that is broken, at its least line
pub record IsFirstOf (low high : ℕ) (d : Declared) (rule : Rule) (line : ℕ) : Type 0 where
  pub from : low ≤ number_of rule
  pub below : number_of rule < high
  pub broken : BreaksBy rule d line
  pub least_rule : (r : Rule) (l : ℕ) → low ≤ number_of r → number_of r < number_of rule → BreaksBy r d l → ⊥
  pub least_line : (l : ℕ) → BreaksBy rule d l → line ≤ l

-- the first of these rules that is broken, or none where none is
abbrev pub IsFirst : ℕ → ℕ → Declared → Option Told → Type 0
IsFirst low high d None = (r : Rule) (l : ℕ) → low ≤ number_of r → number_of r < high → BreaksBy r d l → ⊥
IsFirst low high d (Some told) = IsFirstOf low high d (rule_of told.rule) told.line
