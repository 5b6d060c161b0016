-- The transfers of instances are well formed.
use Rattle.std.specs.Prelude.{ℕ, List, All}
use Rattle.rtl_tree.specs.Moves.{Move}
use Rattle.rtl_tree.specs.WellFormed.{IsWellFormed}
use Rattle.rtl_norm.specs.Transfers.{IsMoveFitting}
use Rattle.rtl_norm_value.specs.Effect.{IsMoveFilled}
use Rattle.md_rows.specs.declared.description.RawDescription.{RawDescription}
use Rattle.md_check.specs.Checking.{IsChecked}
use Rattle.temp_code.specs.declared.code.Transfer.{Transfer}
use Rattle.temp_code.specs.Realised.{IsRealised}

-- a well-formed transfer of words of w bits, in which no hole is left
pub record IsGoodTransfer (w : ℕ) (ms : List Move) : Type 0 where
  pub formed : IsWellFormed ms
  pub fits : All (IsMoveFitting w) ms
  pub filled : All IsMoveFilled ms

-- so is the transfer of each instance of an accepted description
abbrev pub RealisedAreFormed : Type 0
RealisedAreFormed = (w : ℕ) (d : RawDescription) (t : Transfer) → IsChecked w d → IsRealised d t → IsGoodTransfer d.word t.what
