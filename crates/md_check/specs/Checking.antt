-- What the check of a description answers.
use Rattle.std.specs.Prelude.{◌≡◌, ◌⊎◌, ◌↔◌, ◌+◌, ◌<◌, ◌≤◌, ℕ, List, [], ◌∷◌, ◌++◌, slice_get, Option, Some, None}
use Rattle.std.specs.Int.{bit_at}
use Rattle.rtl_word.specs.declared.Rel.{Rel}
use Rattle.md_overlap.specs.Overlap.{HasOverlap}
use Rattle.md_shapes.specs.Shapes.{plain}
use Rattle.vp_io.specs.declared.answers.Reason.{Reason}
use Rattle.md_fault.specs.declared.MdFault.{MdFault}
use Rattle.md_fault.specs.declared.MdFault.TheVariants.{NoMemory, Bad}
use Rattle.md_rows.specs.declared.description.RawDescription.{RawDescription}
use Rattle.md_rows.specs.declared.row.Row.{Row}
use Rattle.md_text.specs.Accepted.{Says}
use Rattle.md_covers.specs.Covers.{IsReadRow}
use Rattle.md_check.specs.Accepted.{Rule, Told, number_of, normalised, IsAcceptedText, IsCovered, IsFlagBranch, shape, general_count, most_registers}

-- some text says the description
pub record IsSaid (d : RawDescription) : Type 0 where
  pub text : List ℕ
  pub says : Says text d

-- the reason is that of the rule that is told
pub record IsReason (d : RawDescription) (reason : Reason) : Type 0 where
  pub rule : Rule
  pub number : reason.rule ≡ number_of rule
  pub column : reason.column ≡ 1
  pub told : Told d rule reason.line reason.detail

abbrev pub IsFault : RawDescription → MdFault → Type 0
IsFault d NoMemory = Unit {0}
IsFault d (Bad reason) = IsReason d reason

-- the description that some accepted text says, on words of w bits, with the normal form of each row
pub record IsChecked (w : ℕ) (d : RawDescription) : Type 0 where
  pub text : List ℕ
  pub said : RawDescription
  pub accepted : IsAcceptedText text said
  pub word : said.word ≡ w
  pub normal : d ≡ normalised said

abbrev pub AreReadRows : ℕ → List Row → Type 0
AreReadRows w rows = (i : ℕ) (row : Row) → slice_get rows i ≡ Some row → IsReadRow w row

-- the least number for which P holds, or none for which it does
abbrev pub IsLeast : (ℕ → Type 0) → Option ℕ → Type 0
IsLeast P None = (n : ℕ) → P n → ⊥
IsLeast P (Some n) = P n × ((m : ℕ) → P m → n ≤ m)

abbrev pub reversed : {A : Type 0} → List A → List A
reversed [] = []
reversed (x ∷ xs) = reversed xs ++ x ∷ []

-- for each of these relations there is a jump
abbrev pub EachBranch : RawDescription → List Rel → Type 0
EachBranch d [] = Unit {0}
EachBranch d (r ∷ rs) = (IsCovered d (shape 20 0 r 0) ⊎ IsFlagBranch d r) × EachBranch d rs

-- the description breaks none of the rules before the last
pub record IsClear (d : RawDescription) : Type 0 where
  pub apart : (line earlier : ℕ) → HasOverlap d line earlier → ⊥
  pub enough : general_count d.registers < most_registers d.rows + 1 → ⊥

-- the reason that a rule before the last gives, or none
abbrev pub TellsRows : RawDescription → Option Reason → Type 0
TellsRows d (Some reason) = IsReason d reason
TellsRows d None = IsClear d

-- a bit for each shape from number 30 on, below the n-th, that is covered
abbrev pub HasBits : RawDescription → ℕ → ℕ → Type 0
HasBits d covered n = (k : ℕ) → (bit_at covered k ≡ 1) ↔ ((k < n) × IsCovered d (plain (30 + k)))

-- the n-th bit alone, where its shape is covered
abbrev pub HasBit : RawDescription → ℕ → ℕ → Type 0
HasBit d covered n = (k : ℕ) → (bit_at covered k ≡ 1) ↔ ((k ≡ n) × IsCovered d (plain (30 + n)))
