-- What the rules of a text limit in the description that an accepted text says.
use Rattle.std.specs.Prelude.{◌≡◌, ◌≢◌, ℕ, ◌<◌, ◌≤◌, List, length, slice_get, Some, All, AllPairs}
use Rattle.md_rows.specs.declared.description.RawDescription.{RawDescription}
use Rattle.md_rows.specs.declared.row.Row.{Row}
use Rattle.md_text.specs.Accepted.{Says}

-- registers have numbers below 64, each another; there are at most 4096 rows, with at most eight holes each
pub record IsLimited (d : RawDescription) : Type 0 where
  pub numbers : All (λ r. r.number < 64) d.registers
  pub apart : AllPairs (λ r s. r.number ≢ s.number) d.registers
  pub few_rows : length d.rows ≤ 4096
  pub few_holes : (i : ℕ) (row : Row) → slice_get d.rows i ≡ Some row → length row.holes ≤ 8

-- what an accepted text says is such
abbrev pub SaidIsLimited : Type 0
SaidIsLimited = (text : List ℕ) (d : RawDescription) → Says text d → IsLimited d
