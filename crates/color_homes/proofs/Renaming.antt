-- An instruction with registers in place of its temporaries.
use Rattle.std.proofs.Common.{◌≡◌, ℕ, List, slice_get, Some, sym, ap, subst, ◌∙◌}
use Rattle.rtl_tree.specs.Moves.{Move}
use Rattle.md_rows.specs.declared.description.RawDescription.{RawDescription}
use Rattle.md_rows.specs.declared.row.Row.{Row}
use Rattle.md_rows.specs.declared.instance.Instance.{Instance}
use Rattle.md_rows.specs.Instances.{IsInstance, effects_with}
use Rattle.md_check.specs.Checking.{IsChecked}
use Rattle.temp_code.specs.declared.code.Transfer.{Transfer}
use Rattle.temp_code.specs.Realised.{IsRealised}
use Rattle.color_renaming.specs.Renaming.{with_registers}
use Rattle.color_renaming.specs.Does.{IsSeparate}
use Rattle.row_colors.specs.Registers.{binding_with, ArePutIn, RegistersPutIn}

module _ (law : RegistersPutIn) (w : ℕ) (d : RawDescription) (t : Transfer) (j : Instance) (register : ℕ → ℕ) (c : IsChecked w d) (h : IsRealised d t)
    (general : ArePutIn d register t.by.binding) (separate : IsSeparate register t.what) (same : j.row ≡ t.by.row) (bound : j.binding ≡ binding_with register t.by.binding) where
  abbrev Both : Type 0
  Both = IsInstance d j h.row × (effects_with h.row j.binding ≡ with_registers register (effects_with h.row t.by.binding))

  both : Both
  both = law w d t.by j h.row register c h.instance general (subst (IsSeparate register) h.effects separate) same bound

  pub is_of : (row : Row) × IsInstance d j row
  is_of = (h.row, both.0)

  pub renamed : (what : List Move) → ((row : Row) → slice_get d.rows j.row ≡ Some row → what ≡ effects_with row j.binding) → what ≡ with_registers register t.what
  renamed what told = told h.row both.0.has_row ∙ (both.1 ∙ ap (with_registers register) (sym h.effects))

  pub realised : (what : List Move) → ((row : Row) → slice_get d.rows j.row ≡ Some row → what ≡ effects_with row j.binding) → IsRealised d (record { what = what; by = j })
  realised what told = record { row = h.row; instance = both.0; effects = told h.row both.0.has_row }
