-- Loads of homes and stores to them, with the instructions that make them.
use Rattle.std.specs.Prelude.{◌≡◌, ℕ, ◌<◌, Bool, true, false, List, ◌++◌, slice_get, Some}
use Rattle.std.specs.List.{AllZip}
use Rattle.rtl_tree.specs.declared.cells.Cell.TheVariants.{Hard}
use Rattle.rtl_tree.specs.declared.cells.Lab.TheVariants.{Block}
use Rattle.md_rows.specs.declared.description.RawDescription.{RawDescription}
use Rattle.md_rows.specs.Fits.{is_in}
use Rattle.md_rows.specs.Instances.{general_set}
use Rattle.md_filled.specs.Doing.{DoesAs}
use Rattle.md_shapes.specs.declared.patterns.Pattern.{Pattern}
use Rattle.md_shapes.specs.declared.patterns.Pattern.TheVariants.{LoadHome, StoreHome}
use Rattle.md_shapes.specs.Shapes.{Open}
use Rattle.temp_machine.specs.Routines.{Routine, Target}
use Rattle.temp_code.specs.declared.code.Transfer.{Transfer}
use Rattle.color_spilling.specs.Spilling.{home_offset, load_moves, store_moves}
use Rattle.color_homes.specs.Putting.{IsPlainStep}

abbrev pub is_home : Pattern → Bool
is_home LoadHome = true
is_home StoreHome = true
is_home _ = false

-- a register at a home
abbrev pub at_home : ℕ → ℕ → Open
at_home register offset = record { a = Hard register; b = Hard register; number = offset; symbol = 0; label = Block 0 }

abbrev pub IsRegister : RawDescription → ℕ → Type 0
IsRegister d n = (n < 64) × (is_in (general_set d.registers) n ≡ true)

abbrev pub HasHome : Routine → ℕ → Type 0
HasHome r k = (h : ℕ) × (slice_get r.homes k ≡ Some h) × (h < r.slots)

abbrev pub CanSpill : RawDescription → Routine → (ℕ → ℕ) → ℕ → Type 0
CanSpill d r register k = IsRegister d (register k) × HasHome r k

pub record IsLoad (d : RawDescription) (t : Target) (r : Routine) (register k : ℕ) (x : Transfer) : Type 0 where
  pub does : DoesAs t.word (load_moves t.sp register (home_offset t r k)) x.what
  pub step : IsPlainStep d t x

pub record IsStore (d : RawDescription) (t : Target) (r : Routine) (register k : ℕ) (x : Transfer) : Type 0 where
  pub does : DoesAs t.word (store_moves t.sp register (home_offset t r k)) x.what
  pub step : IsPlainStep d t x

-- a transfer for each temporary is put behind others
pub record Adds (Is : ℕ → Transfer → Type 0) (ks : List ℕ) (old new : List Transfer) : Type 0 where
  pub added : List Transfer
  pub are : AllZip Is ks added
  pub is : new ≡ old ++ added
