-- What the rules of a description's text give of its registers and holes.
use Rattle.std.specs.Prelude.{◌≡◌, ℕ, true, false, List, [], ◌∷◌, slice_get, Some, int_le}
use Rattle.md_rows.specs.declared.description.Register.{Register}
use Rattle.md_rows.specs.declared.row.Hole.{Hole}
use Rattle.md_rows.specs.declared.row.Hole.TheVariants.{Num as NumHole}
use Rattle.md_rows.specs.declared.row.Row.{Row}
use Rattle.md_text.specs.Rules.{is_reserved}

abbrev pub IsOther : List ℕ → List Register → Type 0
IsOther name [] = Unit {0}
IsOther name (r ∷ rs) = (name ≡ r.name → ⊥) × IsOther name rs

-- the names of the registers differ, and no label or symbol may have one of them
abbrev pub AreNames : List Register → Type 0
AreNames [] = Unit {0}
AreNames (r ∷ rs) = (is_reserved r.name ≡ false) × IsOther r.name rs × AreNames rs

-- a range has a number
abbrev pub IsInOrder : Hole → Type 0
IsInOrder (NumHole low high inverted) = int_le low high ≡ true
IsInOrder _ = Unit {0}

pub record AreInOrder (holes : List Hole) : Type 0 where
  pub each : (i : ℕ) (hole : Hole) → slice_get holes i ≡ Some hole → IsInOrder hole

pub record HaveRanges (rows : List Row) : Type 0 where
  pub each : (i : ℕ) (row : Row) → slice_get rows i ≡ Some row → AreInOrder row.holes
