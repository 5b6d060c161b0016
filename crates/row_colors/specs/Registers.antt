-- Instances with registers in place of temporaries.
use Rattle.std.specs.Prelude.{◌≡◌, ℕ, ◌<◌, true, List, map, slice_get, Some}
use Rattle.rtl_tree.specs.declared.cells.Cell.TheVariants.{Temp}
use Rattle.md_rows.specs.declared.description.RawDescription.{RawDescription}
use Rattle.md_rows.specs.declared.row.Row.{Row}
use Rattle.md_rows.specs.declared.instance.Bound.{Bound}
use Rattle.md_rows.specs.declared.instance.Bound.TheVariants.{Reg}
use Rattle.md_rows.specs.declared.instance.Instance.{Instance}
use Rattle.md_rows.specs.Fits.{is_in}
use Rattle.md_rows.specs.Instances.{IsInstance, effects_with, general_set}
use Rattle.md_check.specs.Checking.{IsChecked}
use Rattle.temp_code.specs.declared.code.Transfer.{Transfer}
use Rattle.temp_code.specs.Realised.{IsRealised}
use Rattle.color_renaming.specs.Renaming.{cell_with, with_registers}
use Rattle.color_renaming.specs.Does.{IsSeparate}

module _ (register : ℕ → ℕ) where
  abbrev pub bound_with : Bound → Bound
  bound_with (Reg c) = Reg (cell_with register c)
  bound_with v = v

  abbrev pub binding_with : List Bound → List Bound
  binding_with b = map bound_with b

-- the registers that are put in are general
abbrev pub ArePutIn : RawDescription → (ℕ → ℕ) → List Bound → Type 0
ArePutIn d register b =
    (h k : ℕ) → slice_get b h ≡ Some (Reg (Temp k)) → (register k < 64) × (is_in (general_set d.registers) (register k) ≡ true)

-- an instruction with registers put in is one, of the same row, and makes the transfer with registers put in
abbrev pub RegistersPutIn : Type 0
RegistersPutIn =
    (w : ℕ) (d : RawDescription) (i j : Instance) (row : Row) (register : ℕ → ℕ) → IsChecked w d → IsInstance d i row → ArePutIn d register i.binding
    → IsSeparate register (effects_with row i.binding) → j.row ≡ i.row → j.binding ≡ binding_with register i.binding
    → IsInstance d j row × (effects_with row j.binding ≡ with_registers register (effects_with row i.binding))

abbrev pub RealisedWithRegisters : Type 0
RealisedWithRegisters =
    (w : ℕ) (d : RawDescription) (t u : Transfer) (register : ℕ → ℕ) → IsChecked w d → IsRealised d t → ArePutIn d register t.by.binding
    → IsSeparate register t.what → u.by.row ≡ t.by.row → u.by.binding ≡ binding_with register t.by.binding → u.what ≡ with_registers register t.what
    → IsRealised d u
