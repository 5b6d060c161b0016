-- What the rules of a text give of the description that an accepted text says.
use Rattle.std.specs.Prelude.{◌≡◌, ℕ, List, slice_get, Some, All}
use Rattle.rtl_word.specs.Words.{IsWordSize}
use Rattle.rtl_norm.specs.Transfers.{IsMoveFitting}
use Rattle.md_rows.specs.declared.description.RawDescription.{RawDescription}
use Rattle.md_rows.specs.declared.row.Row.{Row}
use Rattle.md_text.specs.Accepted.{Says}
use Rattle.md_overlap.specs.Premises.{AreNames, HaveRanges}
use Rattle.md_covers.specs.Covers.{IsRowMove}

-- a row's holes are its own and stand where their kinds can, it names no temporary, symbol or label, and its numbers are words; its
-- normal form is a copy still
pub record IsSoundRow (w : ℕ) (r : Row) : Type 0 where
  pub effects : All (IsRowMove r.holes) r.effects
  pub numbers : All (IsMoveFitting w) r.effects
  pub copied : r.normal ≡ r.effects

pub record IsSound (d : RawDescription) : Type 0 where
  pub size : IsWordSize d.word
  pub names : AreNames d.registers
  pub ranges : HaveRanges d.rows
  pub rows : (i : ℕ) (row : Row) → slice_get d.rows i ≡ Some row → IsSoundRow d.word row

-- what an accepted text says is such
abbrev pub SaidIsSound : Type 0
SaidIsSound = (text : List ℕ) (d : RawDescription) → Says text d → IsSound d
