-- What the search in the rows of a description finds.
use Rattle.std.specs.Prelude.{◌≡◌, ℕ, ◌<◌, ◌≤◌, ◌==◌, nat_lt, cond, Bool, List, length, slice_get, Some}
use Rattle.std.specs.Int.{bit_at}
use Rattle.rtl_word.specs.Words.{IsWordSize}
use Rattle.rtl_tree.specs.Moves.{Move}
use Rattle.md_rows.specs.declared.description.RawDescription.{RawDescription}
use Rattle.md_rows.specs.declared.row.Row.{Row}
use Rattle.md_rows.specs.declared.row.Hole.{Hole}
use Rattle.md_rows.specs.declared.instance.Bound.{Bound}
use Rattle.md_rows.specs.declared.instance.Instance.{Instance}
use Rattle.md_rows.specs.Instances.{general_set}
use Rattle.md_rows.specs.Lines.{longest_line}
use Rattle.md_match.specs.Searches.{Marks, no_marks, is_idle}
use Rattle.md_match.specs.Does.{Does}
use Rattle.md_covers.specs.Covers.{IsReadRow}
use Rattle.recogniser.specs.declared.rows.Request.{Request}
use Rattle.recogniser.specs.Choices.{Choice, Earlier, TakesBy}

-- the n-th bit of a number alone
abbrev pub HasBit : ℕ → ℕ → ℕ → Type 0
HasBit whole bits n = (k : ℕ) → bit_at bits k ≡ cond (k == n) (bit_at whole k) 0

-- the bits of a number below the n-th
abbrev pub HasBitsBelow : ℕ → ℕ → ℕ → Type 0
HasBitsBelow whole bits n = (k : ℕ) → bit_at bits k ≡ cond (nat_lt k n) (bit_at whole k) 0

-- the binding of the first list of choices by which a row does a transfer
pub record IsFirstBinding (w g : ℕ) (holes : List Hole) (idle : Move → Bool) (row es : List Move) (b : List Bound) : Type 0 where
  pub marks : Marks
  pub choices : List Choice
  pub does : Does w g holes idle row es b marks
  pub by : TakesBy row b no_marks es choices marks
  pub first : (c : List Bound) (ms : Marks) (cs : List Choice) → Does w g holes idle row es c ms → TakesBy row c no_marks es cs ms
      → Earlier cs choices → ⊥

-- a row as an accepted description has it
pub record IsSoundRow (w : ℕ) (row : Row) : Type 0 where
  pub few_holes : length row.holes ≤ 8
  pub read : IsReadRow w row

-- what is known of an accepted description
pub record IsSound (d : RawDescription) : Type 0 where
  pub size : IsWordSize d.word
  pub few_rows : length d.rows ≤ 4096
  pub rows : (k : ℕ) (row : Row) → slice_get d.rows k ≡ Some row → IsSoundRow d.word row

pub record IsRequest (q : Request) : Type 0 where
  pub sound : IsSound q.description.now
  pub general : q.general ≡ general_set q.description.now.registers

-- whether an assignment is to one of the flags that a request has as dead
abbrev pub idle_of : Request → Move → Bool
idle_of q = is_idle q.flags 0

-- no binding makes a row do a transfer, or its longest line is too long
abbrev pub IsDoneByNone : RawDescription → (Move → Bool) → List Move → Row → Type 0
IsDoneByNone d idle es row =
    longest_line d.registers row.holes row.text ≤ 640
    → (b : List Bound) (marks : Marks) → Does d.word (general_set d.registers) row.holes idle row.normal es b marks → ⊥

-- the first binding by which a row does a transfer
pub record IsDoneFirstBy (d : RawDescription) (idle : Move → Bool) (es : List Move) (row : Row) (b : List Bound) : Type 0 where
  pub short : longest_line d.registers row.holes row.text ≤ 640
  pub first : IsFirstBinding d.word (general_set d.registers) row.holes idle row.normal es b

-- the first row that does a transfer, with its first binding
pub record IsFirstInstance (d : RawDescription) (idle : Move → Bool) (es : List Move) (i : Instance) : Type 0 where
  pub row : Row
  pub has_row : slice_get d.rows i.row ≡ Some row
  pub does : IsDoneFirstBy d idle es row i.binding
  pub before : (k : ℕ) (other : Row) → k < i.row → slice_get d.rows k ≡ Some other → IsDoneByNone d idle es other

-- no row does it
abbrev pub HasNone : RawDescription → (Move → Bool) → List Move → Type 0
HasNone d idle es = (k : ℕ) (row : Row) → slice_get d.rows k ≡ Some row → IsDoneByNone d idle es row
