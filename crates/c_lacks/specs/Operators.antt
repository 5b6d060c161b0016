-- The operators that a description needn't have, and which of them it has.
use Rattle.std.specs.Prelude.{◌≡◌, ◌↔◌, ℕ, ◌+◌, ◌==◌, Bool, true, false, Option, Some, None}
use Rattle.std.specs.Int.{bit_at}
use Rattle.rtl_tree.specs.declared.expressions.BinOp.{BinOp}
use Rattle.rtl_tree.specs.declared.expressions.BinOp.TheVariants.{Mul, Div, Divu, Rem, Remu, Shl, Shr, Shru, Xor}
use Rattle.md_rows.specs.declared.description.RawDescription.{RawDescription}
use Rattle.md_shapes.specs.Shapes.{plain}
use Rattle.md_check.specs.Accepted.{IsCovered}

-- the place of an operator's shape behind those that each description has
abbrev pub place_of : BinOp → Option ℕ
place_of Mul = Some 0
place_of Div = Some 1
place_of Divu = Some 2
place_of Rem = Some 3
place_of Remu = Some 4
place_of Shl = Some 5
place_of Shr = Some 6
place_of Shru = Some 7
place_of Xor = Some 8
place_of _ = None

-- these are the operators whose shapes the description covers
pub record AreOperators (d : RawDescription) (has : BinOp → Bool) : Type 0 where
  pub covered : (o : BinOp) (n : ℕ) → place_of o ≡ Some n → (has o ≡ true) ↔ IsCovered d (plain (30 + n))
  pub others : (o : BinOp) → place_of o ≡ None → has o ≡ false

abbrev pub has_place : ℕ → Option ℕ → Bool
has_place bits None = false
has_place bits (Some n) = bit_at bits n == 1

-- those of a set with a bit for each
abbrev pub has_in : ℕ → BinOp → Bool
has_in bits o = has_place bits (place_of o)
