-- Code whose transfers are those of instructions of a description.
use Rattle.std.specs.Prelude.{◌≡◌, List, [], ◌∷◌, ◌++◌, All}
use Rattle.md_rows.specs.declared.description.RawDescription.{RawDescription}
use Rattle.md_rows.specs.declared.row.Row.{Row}
use Rattle.md_rows.specs.Instances.{IsInstance, effects_with}
use Rattle.temp_code.specs.declared.code.Transfer.{Transfer}
use Rattle.temp_code.specs.declared.code.End.{End}
use Rattle.temp_code.specs.declared.code.End.TheVariants.{Fall, Jump, Branch, Call, Return}
use Rattle.temp_code.specs.declared.code.Block.{Block}
use Rattle.temp_code.specs.declared.code.Code.{Code}

-- a transfer is the effects of its instance, which is one of the description
pub record IsRealised (d : RawDescription) (t : Transfer) : Type 0 where
  pub row : Row
  pub instance : IsInstance d t.by row
  pub effects : t.what ≡ effects_with row t.by.binding

abbrev pub end_transfers : End → List Transfer
end_transfers Fall = []
end_transfers (Jump t) = t ∷ []
end_transfers (Branch t) = t ∷ []
end_transfers (Call t) = t ∷ []
end_transfers Return = []

-- the transfers of a block, that of its end last
abbrev pub transfers_of : Block → List Transfer
transfers_of b = b.body ++ end_transfers b.end

abbrev pub AreRealised : RawDescription → Code → Type 0
AreRealised d c = All (λ b. All (IsRealised d) (transfers_of b)) c.blocks
