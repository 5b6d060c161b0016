-- Sets of cells that are dead.
use Rattle.std.specs.Prelude.{◌≡◌, ℕ, nat_lt, Bool, true, false}
use Rattle.rtl_tree.specs.declared.cells.Cell.{Cell}
use Rattle.rtl_tree.specs.declared.cells.Cell.TheVariants.{Hard, Temp, Flag}
use Rattle.rtl_tree.specs.Sets.{CellBits, has_cell}

-- the cells of which liveness tells: registers and flags that a description may have, and temporaries that have a home
abbrev pub is_told : ℕ → Cell → Bool
is_told homes (Hard n) = nat_lt n 64
is_told homes (Flag n) = nat_lt n 8
is_told homes (Temp n) = nat_lt n homes
is_told homes _ = false

-- of these the set has just those that are dead
pub record HoldsDead (told : Cell → Bool) (s : CellBits) (alive : Cell → Type 0) : Type 0 where
  pub dead : (c : Cell) → told c ≡ true → has_cell s c ≡ true → alive c → ⊥
  pub live : (c : Cell) → told c ≡ true → has_cell s c ≡ false → alive c
