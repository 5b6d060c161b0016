-- Of which shapes the transfers of naive code are.
use Rattle.std.specs.Prelude.{◌≡◌, ◌<◌, ℕ, false, All}
use Rattle.rtl_word.specs.declared.Rel.{Rel}
use Rattle.md_rows.specs.declared.description.RawDescription.{RawDescription}
use Rattle.md_shapes.specs.declared.patterns.Pattern.TheVariants as shape
use Rattle.md_shapes.specs.Shapes.{Frame as Fixed}
use Rattle.temp_code.specs.declared.code.Transfer.{Transfer}
use Rattle.temp_code.specs.declared.code.End.{End}
use Rattle.temp_code.specs.declared.code.End.TheVariants.{Fall, Jump, Branch, Call, Return}
use Rattle.temp_code.specs.declared.code.Block.{Block}
use Rattle.temp_laws.specs.Doing.{ends_block}
use Rattle.naive_run.specs.Standing.{Shaped, shaped, with_label, on_two_to}
use Rattle.naive_builder.specs.Appending.{IsMade, with_function}

module _ (d : RawDescription) (m : Fixed) where
  -- the elementary transfer of a shape that ends no block
  pub record IsMadeInside (t : Transfer) : Type 0 where
    pub shape : Shaped
    pub inside : ends_block shape.pattern ≡ false
    pub made : IsMade d m shape t

  -- that of a branch on two temporaries, or on the flag of the comparison before it
  pub data IsBranching : Transfer → Type 0 where
    directly : (r : Rel) (a b l : ℕ) (t : Transfer) → IsMade d m (shaped (shape.Branch r) (on_two_to a b l)) t → IsBranching t
    by_flag : (r : Rel) (a b l j : ℕ) (t : Transfer) → IsMade d m (shaped (shape.BranchByFlag r j) (on_two_to a b l)) t → IsBranching t

  -- that of the end of a block, whose calls go to functions with numbers below the count
  abbrev pub IsMadeEnd : (count : ℕ) → End → Type 0
  IsMadeEnd n Fall = Unit {0}
  IsMadeEnd n (Jump t) = (l : ℕ) × IsMade d m (shaped shape.Jump (with_label l)) t
  IsMadeEnd n (Branch t) = IsBranching t
  IsMadeEnd n (Call t) = (f : ℕ) × (f < n) × IsMade d m (shaped shape.Call (with_function f)) t
  IsMadeEnd n Return = Unit {0}

  pub record IsMadeBlock (count : ℕ) (b : Block) : Type 0 where
    pub body : All IsMadeInside b.body
    pub end : IsMadeEnd count b.end
